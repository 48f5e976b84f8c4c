pub use Rattle.bpf_run.specs.Ends
pub mod Outcome
pub mod Refusals
pub mod Registry
pub mod Steps
pub mod Vm
