-- Which pages a call re-places: the definitions of crate reach, passed on.
pub use Rattle.reach.specs.Reach.{
  first_such,
  is_empty,
  pages_to,
  removal_end,
  entering,
  enters_within,
  entry_end,
  first_unsound_lem,
  has_number,
  holding,
}
pub use Rattle.reach.specs.Cascade.{cascaded, carried_past}
