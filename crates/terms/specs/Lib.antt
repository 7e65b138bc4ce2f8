-- The three terms of the engine, each as one statement. proofs/Terms.antt proves them.
pub mod One
pub mod Two
pub mod Three
