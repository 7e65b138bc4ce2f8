-- What is proved of the steady profile: what opening comes to (Asks), small texts (Examples), the offenders and the first of them (Offending), the questions in order
-- (InOrder), the model of a text without offenders (Resolves), opened models (Opened).
pub mod Asks
pub mod Examples
pub mod Offending
pub mod InOrder
pub mod Resolves
pub mod Opened
