-- What each return of a run over a text says, as the effect of the call has it.
pub mod Results
pub mod Held
