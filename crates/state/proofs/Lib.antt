-- What is proved of a state's numbers: the test is exact (Image, Over); what is read from them (Read, Channel); and what each change makes of the state (Lit, Spliced, Pushed).
pub mod Tests
pub mod Chunks
pub mod Part
pub mod Rows
pub mod Entries
pub mod Climbs
pub mod Image
pub mod Over
pub mod Places
pub mod Change
pub mod Spliced
pub mod Lit
pub mod Read
pub mod Channel
pub mod Pushed
pub mod Launch
