-- What joins the code's tests to the test of two entries, and that test to the claim over buffers.
pub mod Tests
pub mod Applies
