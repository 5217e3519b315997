pub mod AllocationTransitions
pub mod Allocations
pub mod StateChanges
pub mod FetchedValues
pub mod PageMarks
pub mod RemainingUnits
pub mod Phases
pub mod Transitions
pub mod CommandEffects
pub mod ReachableObjects
pub mod SettledRegister
pub mod WordValues
pub mod MachineInvariant
pub mod ScanChanges
pub use Rattle.transporter.proofs.lisp_ground
pub use Rattle.transporter.proofs as transporter
