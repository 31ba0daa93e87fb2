-- Headers: cards at their places, the field of NAXIS2 written and read, bytes compared.
-- Assumes nothing.
use mathlib.Core.Path.{◌≡◌, refl, sym, ap, ◌∙◌}
use mathlib.Core.Bool.{Bool, true, false, cond, ◌&&◌}
use mathlib.Core.List.{List, [], ◌∷◌, ◌++◌, append_assoc, append-nil}
use Prim.Native.Nat.{ℕ, zero, suc, ◌+◌, ◌-◌, ◌*◌, ◌/◌, ◌%◌, ◌≤◌, ◌<◌}
use native.Mathlib.Nat.{not-suc-le-zero, zero-add}
use native.Mathlib.Numerals.{add-one}
use native.Mathlib.Decide.{dec_lt}
use native.Mathlib.Omega.{arith}
use lib.Dec.{ltb, eqb}
use lib.ListN.{length, get_or, set, take, drop, length-append, length-drop}
use lib.Seq.{paste, take-suc, take_all, drop-cons, drop-set-add, take-set-le, set_at, length-take-le, take-add}
use borrow.Author.Tests.{le-leb, lt-leb, lt-ltb, le-ltb, eq-eqb, ne_eqb}
use Rattle.buffers.proofs.Lists.{alike_same}
use Rattle.buffers.specs.Lists.{written, alike}
use Rattle.buffers.proofs.Written.{written-whole, written-add, written-middle, written_none, paste_written, written-to-front}
use Rattle.buffers.proofs.Tests.{and-true}
use Rattle.fits_table.specs.declared.cards.Table.TheVariants.{Rows, Nothing}
use Rattle.fits_table.specs.Header.{ascii, card, cards, blanks, leading, field, front, behind, headers, digit_step_lem, read_digits, candidate, tells, table_in, table_length}
use Rattle.fits_table.specs.Shape.{template, card_table, slot_card_lem}

-- the table's card at each of the 72 places, by one computed test
slots_right : ℕ → Bool
slots_right zero = true
slots_right (suc s) = alike (get_or card_table (slot_card_lem s) []) (take 80 (drop (80 * s) template)) && slots_right s

all_right : slots_right 72 ≡ true
unfolding slots_right card_table slot_card_lem template front behind cards card ascii alike
all_right = refl

slot_right : (n s : ℕ) → s < n → slots_right n ≡ true → alike (get_or card_table (slot_card_lem s) []) (take 80 (drop (80 * s) template)) ≡ true
unfolding slots_right
slot_right zero s h e = absurd (not-suc-le-zero h)
slot_right (suc n) s h e = go (dec_lt s n) (slot_right n s)
  where
    parts : (alike (get_or card_table (slot_card_lem n) []) (take 80 (drop (80 * n) template)) ≡ true) × (slots_right n ≡ true)
    parts = and-true (alike (get_or card_table (slot_card_lem n) []) (take 80 (drop (80 * n) template))) (slots_right n) e

    go : Dec (s < n) → (s < n → slots_right n ≡ true → alike (get_or card_table (slot_card_lem s) []) (take 80 (drop (80 * s) template)) ≡ true)
        → alike (get_or card_table (slot_card_lem s) []) (take 80 (drop (80 * s) template)) ≡ true
    go (yes p) ih = ih p parts.1
    go (no p) ih = let same : s ≡ n = omega arith in rw same parts.0

pub slot_small : (s : ℕ) → s < 72 → slot_card_lem s < 18
unfolding slot_card_lem
slot_small s h = go (dec_lt s 5) (dec_lt s 36) (dec_lt s 48)
  where
    go : Dec (s < 5) → Dec (s < 36) → Dec (s < 48) → cond (ltb s 5) s (cond (ltb s 36) 17 (cond (ltb s 48) (s - 31) 17)) < 18
    go (yes a) b c = rw (lt-ltb s 5 a) (omega arith)
    go (no a) (yes b) c = rw (le-ltb s 5 (omega arith), lt-ltb s 36 b) (omega arith)
    go (no a) (no b) (yes c) = rw (le-ltb s 5 (omega arith), le-ltb s 36 (omega arith), lt-ltb s 48 c) (omega arith)
    go (no a) (no b) (no c) = rw (le-ltb s 5 (omega arith), le-ltb s 36 (omega arith), le-ltb s 48 (omega arith)) (omega arith)

pub any-default : (l : List (List ℕ)) (k : ℕ) (d e : List ℕ) → k < length l → get_or l k d ≡ get_or l k e
any-default [] k d e h = absurd (not-suc-le-zero h)
any-default (x ∷ l) zero d e h = refl
any-default (x ∷ l) (suc k) d e h = any-default l k d e (omega arith)

table_long : length card_table ≡ 18
unfolding card_table
table_long = refl

pub template-long : length template ≡ 5760
unfolding template front behind cards card ascii
template-long = refl

pub front_long : length front ≡ 3210
unfolding front cards card ascii
front_long = refl

pub slot_is : (s : ℕ) (d : List ℕ) → s < 72 → get_or card_table (slot_card_lem s) d ≡ take 80 (drop (80 * s) template)
slot_is s d h =
    any-default card_table (slot_card_lem s) d [] (omega (arith, slot_small s h, table_long))
    ∙ alike_same (get_or card_table (slot_card_lem s) []) (take 80 (drop (80 * s) template)) (slot_right 72 s h all_right)

-- s cards of the headers written
pub template-next : (o e : List ℕ) (s : ℕ) (c : List ℕ) → s < 72 → 5760 ≤ length o → e ≡ written 0 (take (80 * s) template) o → c ≡ take 80 (drop (80 * s) template)
    → paste e (80 * s) (drop 0 c) 80 ≡ written 0 (take (80 * (s + 1)) template) o
template-next o e s c h room is ec =
    let long : length (take (80 * s) template) ≡ 80 * s = length-take-le (80 * s) template (omega (arith, template-long)) in
    let part : length (take 80 (drop (80 * s) template)) ≡ 80 = length-take-le 80 (drop (80 * s) template) (omega (arith, length-drop (80 * s) template, template-long)) in
    let whole : length c ≡ 80 = ap length ec ∙ part in
    let sum : 80 * (s + 1) ≡ 80 * s + 80 = omega arith in
    paste_written e (80 * s) c 80 (omega arith)
    ∙ ap (λ (l : List ℕ). written (80 * s) l e) (take_all 80 c (omega arith) ∙ ec)
    ∙ ap (λ (l : List ℕ). written (80 * s) (take 80 (drop (80 * s) template)) l) is
    ∙ ap (λ (k : ℕ). written k (take 80 (drop (80 * s) template)) (written 0 (take (80 * s) template) o)) (sym long ∙ sym (zero-add (length (take (80 * s) template))))
    ∙ written-add 0 (take (80 * s) template) (take 80 (drop (80 * s) template)) o (omega arith)
    ∙ ap (λ (l : List ℕ). written 0 l o) (sym (take-add (80 * s) 80 template) ∙ ap (λ (k : ℕ). take k template) (sym sum))

pub template-none : (o : List ℕ) → o ≡ written 0 (take (80 * 0) template) o
template-none o = written_none 0 o

pub template-all : (o : List ℕ) (s : ℕ) → s ≡ 72 → written 0 (take (80 * s) template) o ≡ written 0 template o
template-all o s e = ap (λ (k : ℕ). written 0 (take (80 * k) template) o) e ∙ ap (λ (l : List ℕ). written 0 l o) (take_all 5760 template (omega (arith, template-long)))

-- the field of a number, written from its last digit
pub length-leading : (w n : ℕ) → length (leading w n) ≡ w
unfolding leading
length-leading zero n = refl
length-leading (suc w) n = length-append (leading w (n / 10)) (cond (eqb n 0) 32 (48 + n % 10) ∷ []) ∙ omega (arith, length-leading w (n / 10))

pub length-field : (n : ℕ) → length (field n) ≡ 20
unfolding field
length-field n = length-append (leading 19 (n / 10)) ((48 + n % 10) ∷ []) ∙ omega (arith, length-leading 19 (n / 10))

set_before : (a c : ℕ) (S o : List ℕ) → a < length o → set (written (suc a) S o) a c ≡ written a (c ∷ S) o
unfolding written
set_before a c S o h =
    let sum : suc a + length S ≡ a + suc (length S) = omega arith in
    ap (λ (l : List ℕ). set (l ++ (S ++ drop (suc a + length S) o)) a c) (take-suc o a 0 h)
    ∙ ap (λ (l : List ℕ). set l a c) (append_assoc (take a o) (get_or o a 0 ∷ []) (S ++ drop (suc a + length S) o))
    ∙ set_at (take a o) (get_or o a 0) (S ++ drop (suc a + length S) o) c a (length-take-le a o (omega arith))
    ∙ ap (λ (k : ℕ). take a o ++ (c ∷ (S ++ drop k o))) sum

set-behind : (a d : ℕ) (S o : List ℕ) → a + length S < length o → written a S (set o (a + length S) d) ≡ written a (S ++ (d ∷ [])) o
unfolding written
set-behind a d S o h =
    let k : ℕ = a + length S in
    let sum : suc (a + length S) ≡ a + length (S ++ (d ∷ [])) = omega (arith, length-append S (d ∷ [])) in
    let zero_more : a + length S + 0 ≡ a + length S = omega arith in
    ap (λ (l : List ℕ). l ++ (S ++ drop (a + length S) (set o (a + length S) d))) (take-set-le a o (a + length S) d (omega arith))
    ∙ ap (λ (l : List ℕ). take a o ++ (S ++ l))
    (ap (λ (j : ℕ). drop (a + length S) (set o j d)) (sym zero_more) ∙ drop-set-add (a + length S) o 0 d ∙ ap (λ (l : List ℕ). set l 0 d) (drop-cons o (a + length S) 0 h))
    ∙ ap (λ (l : List ℕ). take a o ++ l) (sym (append_assoc S (d ∷ []) (drop (suc (a + length S)) o)))
    ∙ ap (λ (j : ℕ). take a o ++ (S ++ (d ∷ []) ++ drop j o)) sum

-- the columns from i on written
pub record Filled (o e : List ℕ) (at first rest i : ℕ) : Type 0 where
  pub done : List ℕ
  pub whole : leading 19 first ≡ leading i rest ++ done
  pub is : e ≡ written (at + i) done o

pub filled_none : (o : List ℕ) (at n : ℕ) → Filled o o at n n 19
filled_none o at n = record { done = []; whole = sym (append-nil {A = ℕ} (leading 19 n)); is = written_none (at + 19) o }

pub filled_next : (o e : List ℕ) (at first rest i c : ℕ) → 0 < i → at + i ≤ length o → c ≡ cond (eqb rest 0) 32 (48 + rest % 10) → Filled o e at first rest i
    → Filled o (set e (at + (i - 1)) c) at first (rest / 10) (i - 1)
unfolding leading
filled_next o e at first rest zero c h room ec w = absurd (not-suc-le-zero h)
filled_next o e at first rest (suc j) c h room ec w =
    let less : suc j - 1 ≡ j = omega arith in
    let step : at + suc j ≡ suc (at + j) = omega arith in
    rw (less)
    (record {
      done = c ∷ w.done;
      whole = w.whole ∙ append_assoc (leading j (rest / 10)) (cond (eqb rest 0) 32 (48 + rest % 10) ∷ []) w.done ∙ ap (λ (x : ℕ). leading j (rest / 10) ++ (x ∷ w.done)) (sym ec);
      is =
          ap (λ (l : List ℕ). set l (at + j) c) (w.is ∙ ap (λ (k : ℕ). written k w.done o) step)
          ∙ set_before (at + j) c w.done o (omega arith);
    })

pub filled-all : (o e : List ℕ) (at n rest : ℕ) → at + 20 ≤ length o → Filled (set o (at + 19) (48 + n % 10)) e at (n / 10) rest 0 → e ≡ written at (field n) o
unfolding field leading
filled-all o e at n rest room w =
    let zero_more : at + 0 ≡ at = omega arith in
    let all : w.done ≡ leading 19 (n / 10) = sym w.whole in
    let long : length (leading 19 (n / 10)) ≡ 19 = length-leading 19 (n / 10) in
    w.is ∙ ap (λ (k : ℕ). written k w.done (set o (at + 19) (48 + n % 10))) zero_more
    ∙ ap (λ (l : List ℕ). written at l (set o (at + 19) (48 + n % 10))) all
    ∙ ap (λ (k : ℕ). written at (leading 19 (n / 10)) (set o (at + k) (48 + n % 10))) (sym long)
    ∙ set-behind at (48 + n % 10) (leading 19 (n / 10)) o (omega arith)

-- the field written into the template makes the headers
template-size : length (front ++ (blanks 20 ++ behind)) ≡ 5760
unfolding front behind cards card ascii
template-size = refl

headers-size : (x : List ℕ) → length x ≡ 20 → length (front ++ (x ++ behind)) ≡ 5760
headers-size x e =
    length-append front (x ++ behind)
    ∙ omega (arith, length-append x behind, front_long, length-append front (blanks 20 ++ behind), length-append (blanks 20) behind, template-size)

pub headers-made : (o : List ℕ) (rows : ℕ) → 5760 ≤ length o → written 3210 (field rows) (written 0 template o) ≡ written 0 (headers rows) o
unfolding template headers
headers-made o rows room =
    ap (λ (l : List ℕ). written 3210 (field rows) l) (opened (blanks 20) (length-blanks))
    ∙ written-middle 3210 front (blanks 20) (field rows) (behind ++ drop 5760 o) front_long (length-field rows)
    ∙ sym (opened (field rows) (length-field rows))
  where
    length-blanks : length (blanks 20) ≡ 20
    length-blanks = refl

    opened : (x : List ℕ) → length x ≡ 20 → written 0 (front ++ (x ++ behind)) o ≡ front ++ (x ++ (behind ++ drop 5760 o))
    opened x e = written-to-front (front ++ (x ++ behind)) o ∙ ap (λ (k : ℕ). front ++ (x ++ behind) ++ drop k o) (headers-size x e)
        ∙ append_assoc front (x ++ behind) (drop 5760 o) ∙ ap (λ (l : List ℕ). front ++ l) (append_assoc x behind (drop 5760 o))

-- NAXIS2's digits read
pub step_small : (v b : ℕ) → v < 400000 → digit_step_lem v b < 400000
unfolding digit_step_lem
step_small v b h = go (dec_lt 32768 v) (dec_lt b 48) (dec_lt 57 b)
  where
    go : Dec (32768 < v) → Dec (b < 48) → Dec (57 < b) → cond (ltb 32768 v) v (cond (ltb b 48) v (cond (ltb 57 b) v (10 * v + (b - 48)))) < 400000
    go (yes p) q r = rw (lt-ltb 32768 v p) h
    go (no p) (yes q) r = rw (le-ltb 32768 v (omega arith), lt-ltb b 48 q) h
    go (no p) (no q) (yes r) = rw (le-ltb 32768 v (omega arith), le-ltb b 48 (omega arith), lt-ltb 57 b r) h
    go (no p) (no q) (no r) = rw (le-ltb 32768 v (omega arith), le-ltb b 48 (omega arith), le-ltb 57 b (omega arith)) (omega arith)

pub read-snoc : (v : ℕ) (l : List ℕ) (b : ℕ) → read_digits v (l ++ (b ∷ [])) ≡ digit_step_lem (read_digits v l) b
unfolding read_digits
read-snoc v [] b = refl
read-snoc v (x ∷ l) b = read-snoc (digit_step_lem v x) l b

pub read_next : (l : List ℕ) (v i b : ℕ) → i < length l → v ≡ read_digits 0 (take i l) → b ≡ get_or l i 0 → digit_step_lem v b ≡ read_digits 0 (take (i + 1) l)
read_next l v i b h e eb =
    ap (λ (k : ℕ). digit_step_lem k b) e ∙ ap (digit_step_lem (read_digits 0 (take i l))) eb
    ∙ sym (read-snoc 0 (take i l) (get_or l i 0)) ∙ ap (read_digits 0) (sym (take-suc l i 0 h) ∙ ap (λ (k : ℕ). take k l) (sym (add-one i)))

pub headers-steps : (o b₁ b₂ : List ℕ) (rows : ℕ) → 5760 ≤ length o → b₁ ≡ written 0 template o → b₂ ≡ written 3210 (field rows) b₁ → b₂ ≡ written 0 (headers rows) o
headers-steps o b₁ b₂ rows h e₁ e₂ = e₂ ∙ ap (written 3210 (field rows)) e₁ ∙ headers-made o rows h

pub headers-long : (rows : ℕ) → length (headers rows) ≡ 5760
unfolding headers
headers-long rows = headers-size (field rows) (length-field rows)

-- the headers put into 5,760 bytes are those bytes
pub headers-whole : (z e : List ℕ) (rows : ℕ) → length z ≡ 5760 → e ≡ written 0 (headers rows) z → e ≡ headers rows
headers-whole z e rows h is = is ∙ written-whole (headers rows) z (headers-long rows ∙ sym h)

-- what a header and a length tell, in the code's order
module _ (given : List ℕ) where
  pub told-short : length given < 5760 → Nothing ≡ table_in given
  unfolding table_in
  told-short h = rw (lt-leb 5760 (length given) h)

  pub told-many : 5760 ≤ length given → 32768 < candidate given → Nothing ≡ table_in given
  unfolding table_in tells
  told-many h g = rw (le-leb 5760 (length given) h, lt-leb (candidate given) 32768 g)

  pub told-unlike : 5760 ≤ length given → candidate given ≤ 32768 → alike (take 5760 given) (headers (candidate given)) ≡ false → Nothing ≡ table_in given
  unfolding table_in tells
  told-unlike h g e = rw (le-leb 5760 (length given) h, le-leb (candidate given) 32768 g, e)

  pub told-long : 5760 ≤ length given → candidate given ≤ 32768 → alike (take 5760 given) (headers (candidate given)) ≡ true
      → (length given ≡ table_length (candidate given) → ⊥) → Nothing ≡ table_in given
  unfolding table_in tells
  told-long h g e n = rw (le-leb 5760 (length given) h, le-leb (candidate given) 32768 g, e, ne_eqb (length given) (table_length (candidate given)) n)

  pub told-rows : 5760 ≤ length given → candidate given ≤ 32768 → alike (take 5760 given) (headers (candidate given)) ≡ true
      → length given ≡ table_length (candidate given) → Rows (candidate given) ≡ table_in given
  unfolding table_in tells
  told-rows h g e n = rw (le-leb 5760 (length given) h, le-leb (candidate given) 32768 g, e, eq-eqb (length given) (table_length (candidate given)) n)
