pub mod Buffer
pub mod Ready
