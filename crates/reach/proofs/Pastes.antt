-- Items pasted page by page are pasted in one.
pub use Rattle.soundness.proofs.Pastes.{paste_more, paste_same}
pub use Rattle.buffers.proofs.Lists.{map-take, map-drop}
