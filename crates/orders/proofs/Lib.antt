pub mod AnotherOrder
pub mod CaseInput
