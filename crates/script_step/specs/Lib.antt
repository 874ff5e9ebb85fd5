-- The lone manager's steps, a file's line, the machine's steps; and what their proofs cite.
pub mod LoneStep
pub mod FileStep
pub mod MachineStep
pub mod FileStepLaws
pub mod MachineStepLaws
