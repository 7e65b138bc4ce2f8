-- What is proved of the buffer of the saves: names and their numbers (Names), a state with its clock (Kept), the test is exact (Places, Over), what each turn makes of the saves (Change); and what the
-- functions' loops and cases say (Laws).
pub mod Names
pub mod Kept
pub mod Places
pub mod Over
pub mod Change
pub mod Laws
pub mod Clocks
