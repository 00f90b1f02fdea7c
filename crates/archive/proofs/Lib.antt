-- Laws that the proofs of the crate's functions cite (ByHeader); what the first lines of a sheet decide (FirstLines), and that a sheet says the same with
-- those of the other form (BothForms); each refusal exactly when its rule is broken (Refusals); and that the contract has one reply (Unique).
pub mod ByHeader
pub mod FirstLines
pub mod BothForms
pub mod Refusals
pub mod Unique
