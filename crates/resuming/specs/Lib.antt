-- What carrying a search on answers, and where the search of a buffer stands.
pub mod Progress
pub mod Standing
