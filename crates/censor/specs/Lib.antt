-- Message 8: its rule for a reader and a writer, what the answers tell, the laws between the two, and cases on either side of each limit.
pub mod Censor
pub mod Told
pub mod Theorems
pub mod Steps
pub mod Cases
