-- Power lost in a history: document 02 (xii).
use Rattle.std.specs.Prelude.{Bool, cond, ◌&&◌, List, [], ◌∷◌, ℕ, suc, ◌*◌, eqb, length}
use Rattle.hashing.specs.declared.Parameters.{Parameters}
use Rattle.pages.specs.declared.position.Position.{Position}
use Rattle.placement.specs.File.{File}
use Rattle.calls.specs.declared.records.GrowthRecord.{GrowthRecord}
use Rattle.calls.specs.Answers.{Pool, After, unpooled, accepted}
use Rattle.calls.specs.Calls.{pool_fits_lem, unchanged}
use Rattle.calls.specs.Records.{closed_record, enter_under, change_under, remove_under}
use Rattle.calls.specs.Spots.{first_spot}
use Rattle.calls.specs.Stores.{enter_stopped_under, change_stopped_under, remove_stopped_under, with_separators}
use Rattle.calls.specs.Mend.{mend_under}
use Rattle.histories.specs.Model.{enter, change, remove, Made, made}

-- "an entry, change or removal", or none: "All other calls are excluded"
pub data Underway : Type 0 where
  no_call : Underway
  an_entry a_change : ℕ → ℕ → Position → Underway
  a_removal : ℕ → ℕ → Underway

-- what was under way, how many of its stores were done, the separators found afterwards, and the pool that the mending is lent
pub record Loss : Type 0 where
  pub underway : Underway
  pub stores : ℕ
  pub separators : List ℕ
  pub pool : Pool

-- M separators, of whatever contents, and a pool of the right lengths
unfoldable pub loss_fits : Parameters → Loss → Bool
loss_fits p x = eqb (length x.separators) p.pages && pool_fits_lem p x.pool

-- the call as it would have been
unfoldable pub whole_call : Parameters → GrowthRecord → File → Pool → Underway → After
whole_call p r f pool no_call = unchanged r.state f pool (accepted 0)
whole_call p r f pool (an_entry caller k q) = enter_under p r f pool caller k q
whole_call p r f pool (a_change caller k q) = change_under p r f unpooled caller k q
whole_call p r f pool (a_removal caller k) = remove_under p r f pool caller k

-- "a form stopped after a given number of stores"
unfoldable pub stopped_call : Parameters → GrowthRecord → File → Pool → ℕ → Underway → After
stopped_call p r f pool n no_call = unchanged r.state f pool (accepted 0)
stopped_call p r f pool n (an_entry caller k q) = enter_stopped_under p r f pool caller k q n
stopped_call p r f pool n (a_change caller k q) = change_stopped_under p r f unpooled caller k q n
stopped_call p r f pool n (a_removal caller k) = remove_stopped_under p r f pool caller k n

-- "separators are lost"; "after a power loss the host lends the record with nothing open" (xiii)
unfoldable pub mended_after : Parameters → GrowthRecord → File → Pool → Loss → After
mended_after p r f pool x =
    mend_under p (closed_record r.state) (with_separators x.separators (stopped_call p r f pool x.stores x.underway).file) x.pool

-- no page and place of the two files differs, nor a separator
unfoldable pub same_file : Parameters → File → File → Bool
same_file p f l = eqb (first_spot p f l) (p.pages * suc p.places)

unfoldable pub made_of : Underway → ℕ → List Made
made_of no_call n = []
made_of (an_entry caller k q) n = made (enter caller k q) n ∷ []
made_of (a_change caller k q) n = made (change caller k q) n ∷ []
made_of (a_removal caller k) n = made (remove caller k) n ∷ []

-- "a history .. counts the call if the mended file is the one after it"
unfoldable pub counted_call : Parameters → Underway → After → File → List Made
counted_call p u whole mended = cond (same_file p mended whole.file) (made_of u whole.answer.refusal) []
