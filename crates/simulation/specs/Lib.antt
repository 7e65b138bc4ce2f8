-- What a run over a text comes to.
pub mod Comes
