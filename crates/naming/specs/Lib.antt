-- Waits marked at their tokens, and their names as first met (02, note 13).
pub mod Marks
