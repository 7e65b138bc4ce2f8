-- What beginning a search and carrying it on give.
pub mod Turns
