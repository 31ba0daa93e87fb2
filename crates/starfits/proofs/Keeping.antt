-- Laws of what is kept of a table, and of the parts in which its lines are written.
use Prim.Native.Nat.{ℕ, zero, suc, ◌+◌, ◌≤◌, ◌<◌}
use native.Mathlib.Omega.{arith}
use native.Mathlib.Decide.{dec_lt}
use mathlib.Core.List.{List, [], ◌∷◌, ◌++◌, append-nil, append_assoc}
use mathlib.Core.Path.{◌≡◌, sym, ap, subst, ◌∙◌}
use mathlib.Core.Bool.{true, false}
use native.Mathlib.Numerals.{add-one}
use lib.ListN.{length, take}
use lib.Seq.{length-take-le, take_all}
use Rattle.std.specs.Prelude.{Option, None, Some, IfSome}
use Rattle.std.specs.Io.KnownBytes.{Consumes, Appends, IsAtEnd}
use Rattle.std.proofs.KnownBytes.{Consumes-nil, Consumes-trans, Appends-nil, Appends-trans}
use Rattle.catalogues.specs.Listing.{is_table, listed, kept_table, part_of, in_parts, converted}
use Rattle.catalogues.specs.Runs.{from_lines}
use Rattle.catalogues.proofs.Listed.{parts_listed, kept-listed, kept_then}
use Rattle.catalogues.proofs.Program.{nothing-more, kept_full, same_kind, table_kind}
use Rattle.starfits.specs.Keeping.{Keeps}

-- the lines of a table's first parts
unfoldable pub parts_to : ℕ → List ℕ → List ℕ
parts_to zero given = []
parts_to (suc k) given = parts_to k given ++ part_of k given

pub parts_begun : (given : List ℕ) (held : Option (List ℕ)) → Appends held held (parts_to 0 given)
unfolding parts_to
parts_begun given held = Appends-nil held

pub parts_grown :
    (k : ℕ) (given : List ℕ) (held mid held_then : Option (List ℕ)) → Appends held mid (parts_to k given) →
    Appends mid held_then (part_of k given) → Appends held held_then (parts_to (k + 1) given)
unfolding parts_to
parts_grown k given held mid held_then a b = rw (add-one k) (Appends-trans held mid held_then _ _ a b)

all_parts : (given : List ℕ) → parts_to 4 given ≡ listed given
unfolding parts_to in_parts
all_parts given =
    append_assoc (part_of 0 given ++ part_of 1 given) (part_of 2 given) (part_of 3 given)
    ∙ append_assoc (part_of 0 given) (part_of 1 given) (part_of 2 given ++ part_of 3 given)
    ∙ parts_listed given

pub parts_ended :
    (k : ℕ) (given : List ℕ) (held held_then : Option (List ℕ)) → Appends held held_then (parts_to k given) → k ≡ 4 →
    Appends held held_then (listed given)
parts_ended k given held held_then a e = subst (Appends held held_then) (ap (λ (n : ℕ). parts_to n given) e ∙ all_parts given) a

-- few enough bytes are kept whole
few_kept : (l : List ℕ) (n : ℕ) → n ≤ 400321 → n ≤ length l → kept_table (take n l) ≡ take n l
unfolding kept_table
few_kept l n few room = take_all 400321 (take n l) (omega (arith, length-take-le n l room))

pub keeps_nothing :
    (given : List ℕ) (kept : ℕ) (left : Option (List ℕ)) → kept ≤ 400321 → kept ≤ length given → Keeps given given kept kept left left
keeps_nothing given kept left few room =
    record {
      input = [];
      read = Consumes-nil left;
      holds = sym (ap kept_table (append-nil (take kept given)) ∙ few_kept given kept few room);
    }

both : (x given mid a b : List ℕ) (kept mid_kept : ℕ) → take mid_kept mid ≡ kept_table (take kept given ++ a) →
    x ≡ kept_table (take mid_kept mid ++ b) → x ≡ kept_table (take kept given ++ (a ++ b))
both x given mid a b kept mid_kept e f =
    f ∙ ap (λ (l : List ℕ). kept_table (l ++ b)) e ∙ kept_then (take kept given ++ a) b ∙ ap kept_table (append_assoc (take kept given) a b)

pub keeps_then :
    (given mid given_then : List ℕ) (kept mid_kept kept_then' : ℕ) (left mid_left left_then : Option (List ℕ)) →
    Keeps given mid kept mid_kept left mid_left → Keeps mid given_then mid_kept kept_then' mid_left left_then →
    Keeps given given_then kept kept_then' left left_then
keeps_then given mid given_then kept mid_kept kept_then' left mid_left left_then a b =
    record {
      input = a.input ++ b.input;
      read = Consumes-trans left mid_left left_then a.input b.input a.read b.read;
      holds = both _ given mid a.input b.input kept mid_kept a.holds b.holds;
    }

-- what is kept of all input, where it is of what was left
pub keeps_all :
    (given mid given_then : List ℕ) (kept mid_kept n : ℕ) (left mid_left : Option (List ℕ)) → Keeps given mid kept mid_kept left mid_left →
    IfSome mid_left (λ rest. take n given_then ≡ kept_table (take mid_kept mid ++ rest)) →
    IfSome left (λ rest. take n given_then ≡ kept_table (take kept given ++ rest))
keeps_all given mid given_then kept mid_kept n left mid_left a h = go left mid_left a.read h
  where
    go : (l m : Option (List ℕ)) → Consumes l m a.input → IfSome m (λ rest. take n given_then ≡ kept_table (take mid_kept mid ++ rest)) →
        IfSome l (λ rest. take n given_then ≡ kept_table (take kept given ++ rest))
    go None m c e = tt
    go (Some xs) None c e = absurd c
    go (Some xs) (Some ys) c e =
        both _ given mid a.input ys kept mid_kept a.holds e ∙ ap (λ (l : List ℕ). kept_table (take kept given ++ l)) (sym c)

-- where nothing more is kept, all is: the input has ended, or there is no room
pub kept_all :
    (given given_then block : List ℕ) (kept n : ℕ) (left left_then : Option (List ℕ)) → kept ≤ 400321 → 400321 ≤ length given →
    Consumes left left_then block → (block ≡ [] → IsAtEnd left_then) → take n given_then ≡ kept_table (take kept given ++ block) → n ≡ kept →
    IfSome left (λ rest. take n given_then ≡ kept_table (take kept given ++ rest))
kept_all given given_then block kept n left left_then few room c ends e same = go left left_then c ends
  where
    -- of what is read after the block nothing is kept
    more : (ys : List ℕ) → (block ≡ [] → ys ≡ []) → take n given_then ≡ kept_table (take kept given ++ (block ++ ys))
    more ys end = fill (dec_lt kept 400321)
      where
        fill : Dec (kept < 400321) → take n given_then ≡ kept_table (take kept given ++ (block ++ ys))
        fill (yes p) =
            let none : block ≡ [] =
            nothing-more given given_then block kept p room (ap (λ (m : ℕ). take m given_then) (sym same) ∙ e) in
            e ∙ ap (λ (l : List ℕ). kept_table (take kept given ++ l)) (sym (ap (λ (l : List ℕ). block ++ l) (end none) ∙ append-nil block))
        fill (no p) =
            let full : 400321 ≤ length (kept_table (take kept given)) =
            rw (few_kept given kept few (omega (arith, room))) (omega (arith, length-take-le kept given (omega (arith, room)))) in
            e ∙ kept_full (take kept given) block full ∙ sym (kept_full (take kept given) (block ++ ys) full)

    go : (l m : Option (List ℕ)) → Consumes l m block → (block ≡ [] → IsAtEnd m) →
        IfSome l (λ rest. take n given_then ≡ kept_table (take kept given ++ rest))
    go None m c' i = tt
    go (Some xs) None c' i = absurd c'
    go (Some xs) (Some ys) c' i = more ys i ∙ ap (λ (l : List ℕ). kept_table (take kept given ++ l)) (sym c')

-- the lines of what is kept are those of all
pub listed_all :
    (given given_then first : List ℕ) (begun n : ℕ) (left : Option (List ℕ)) → take begun given ≡ kept_table first →
    IfSome left (λ rest. take n given_then ≡ kept_table (take begun given ++ rest)) →
    IfSome left (λ rest. listed (take n given_then) ≡ listed (first ++ rest))
listed_all given given_then first begun n None e h = tt
listed_all given given_then first begun n (Some rest) e h =
    ap listed (h ∙ ap (λ (l : List ℕ). kept_table (l ++ rest)) e ∙ kept_then first rest) ∙ kept-listed (first ++ rest)

pub listed_after :
    (left held held_then : Option (List ℕ)) (text first : List ℕ) → IfSome left (λ rest. listed text ≡ listed (first ++ rest)) →
    Appends held held_then (listed text) → IfSome left (λ rest. Appends held held_then (listed (first ++ rest)))
listed_after None held held_then text first e w = tt
listed_after (Some rest) held held_then text first e w = subst (Appends held held_then) e w

-- the first block tells whether the input is a table
pub table_input :
    (left mid held held_then : Option (List ℕ)) (block : List ℕ) → Consumes left mid block → is_table block ≡ true →
    IfSome mid (λ rest. Appends held held_then (listed (block ++ rest))) → IfSome left (λ input. Appends held held_then (converted input))
unfolding converted
table_input None mid held held_then block c t h = tt
table_input (Some xs) None held held_then block c t h = absurd c
table_input (Some xs) (Some ys) held held_then block c t h = rw (c, table_kind block ys t) h

pub lines_input :
    (left mid held held_then : Option (List ℕ)) (block : List ℕ) → Consumes left mid block → (block ≡ [] → IsAtEnd mid) →
    is_table block ≡ false → IfSome mid (λ rest. Appends held held_then (from_lines (block ++ rest))) →
    IfSome left (λ input. Appends held held_then (converted input))
unfolding converted
lines_input None mid held held_then block c ends t h = tt
lines_input (Some xs) None held held_then block c ends t h = absurd c
lines_input (Some xs) (Some ys) held held_then block c ends t h =
    let kind : is_table (block ++ ys) ≡ false =
    same_kind block ys (λ none. ap (λ (l : List ℕ). l ++ ys) none ∙ ends none) ∙ t in
    rw (c, kind) h

-- a read that gives no byte finds the end
pub ended :
    (n : ℕ) (block : List ℕ) (left_then : Option (List ℕ)) → n ≤ length block → 0 < length block →
    (n ≡ 0 → 0 < length block → IsAtEnd left_then) → take n block ≡ [] → IsAtEnd left_then
ended n block left_then within some h none =
    let bytes : length (take n block) ≡ 0 = ap length none in
    h (omega (arith, bytes, length-take-le n block within)) some
