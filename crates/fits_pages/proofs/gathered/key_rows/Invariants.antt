use mathlib.Core.Path.{refl}
use Prim.Native.Nat.{◌+◌, ◌≤◌, ◌-◌}
use native.Mathlib.Omega.{arith}
use Rattle.buffers.proofs.Copies.{Copied, none, done}
use Rattle.fits_pages.specs.Columns.{row_keys}
use Rattle.fits_pages.proofs.RowKeys.{homes-count, keys_next}
use Rattle.fits_pages.proofs.gathered.key_rows.Given as goal

abbrev pub invariant-loop-first : goal.invariant-loop-first
invariant-loop-first l = (l.first ≤ l.rows) × Copied l.initial.keys 0 (row_keys l.geometry l.given l.rows) l.keys l.first

abbrev pub decreases-loop-first : goal.decreases-loop-first
decreases-loop-first l = l.rows - l.first
