-- Runs of stores.
use Prim.Native.Nat.{ℕ, suc, ◌+◌, ◌≤◌}
use native.Mathlib.Nat.{add-zero, add-suc, suc-add}
use native.Mathlib.Omega.{arith}
use mathlib.Core.List.{List, [], ◌∷◌, ◌++◌}
use mathlib.Core.Path.{◌≡◌, refl, sym, ◌∙◌}
use lib.ListN.{length, set, length-append}
use Rattle.std.proofs.Common.{append_assoc}
use lib.Seq.{sets, paste}
use Rattle.std.proofs.lemmas.List.Edits.{sets-eq, paste_all}
use Rattle.lines.specs.Replies.{TextAt}

pub sets_append : (l : List ℕ) (i : ℕ) (a b : List ℕ) → sets l i (a ++ b) ≡ sets (sets l i a) (i + length a) b
sets_append l i [] b = rw add-zero
sets_append l i (x ∷ a) b = rw (add-suc i (length a), ← suc-add i (length a)) (sets_append (set l i x) (suc i) a b)

-- a text copied into its place
pub copied :
    (l : List ℕ) (at : ℕ) (text : List ℕ) → at + length text ≤ length l → paste l at text (length text) ≡ sets l at text
copied l at text h = paste_all l at text _ refl ∙ sym (rw (← append_assoc) (sets-eq text l at h))

pub nothing_put : (at : ℕ) (l : List ℕ) → TextAt at [] l l at
nothing_put at l = record { buffer = refl; end = sym (add-zero at) }

-- one text after another
pub then :
    (at : ℕ) (a b : List ℕ) (before mid after : List ℕ) (m n : ℕ) →
    TextAt at a before mid m → TextAt m b mid after n → TextAt at (a ++ b) before after n
then at a b before mid after m n p q =
    record {
      buffer = q.buffer ∙ rw (p.buffer, p.end, sets_append before at a b);
      end = rw (length-append a b) (omega (arith, p.end, q.end));
    }

pub one_more :
    (at : ℕ) (a : List ℕ) (x : ℕ) (before mid : List ℕ) (m : ℕ) →
    TextAt at a before mid m → TextAt at (a ++ (x ∷ [])) before (set mid m x) (m + 1)
one_more at a x before mid m p =
    then at a (x ∷ []) before mid (set mid m x) m (m + 1) p (record { buffer = refl; end = refl })
