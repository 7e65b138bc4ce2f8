-- What is proved of lent buffers: model buffers (Held), listing buffers (Listings), the machine in the model and state buffers (Machines), every list of calls (Every, from Local and Lent), what listings and steps show after it
-- (Transitions), and what each answer leaves (Outcomes).
pub mod Held
pub mod Listings
pub mod Machines
pub mod Three
pub mod Clocks
pub mod Four
pub mod Local
pub mod Lent
pub mod Every
pub mod Written
pub mod Texts
pub mod Transitions
pub mod Waiting
pub mod Found
pub mod Told
pub mod Answers
pub mod Pieces
pub mod Under
pub mod Outcomes
pub mod Runs
pub mod Independent
pub mod Steady
