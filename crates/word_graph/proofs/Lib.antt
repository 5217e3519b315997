pub mod Places
pub mod HeldObjects
pub mod RenamedGraph
pub mod ShownObjects
pub mod ShownConses
pub use Rattle.dump_laws.proofs as dump_laws
pub use Rattle.lisp_ground.proofs as lisp_ground
pub use Rattle.lisp_ground.proofs.lisp_meaning
