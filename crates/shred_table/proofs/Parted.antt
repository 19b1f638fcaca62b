-- Lists of pairs, and their hands.
pub mod Pairs
