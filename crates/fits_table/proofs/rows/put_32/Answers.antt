use Rattle.std.proofs.Common.{◌≡◌, ℕ, ◌/◌, ◌%◌, ◌∷◌, [], refl, ap, ◌∙◌, arith}
use Rattle.std.proofs.lemmas.Slice.{put_mid-paste}
use Rattle.std.proofs.lemmas.List.Edits.{paste_all}
use Rattle.buffers.specs.Lists.{written}
use Rattle.fits_table.specs.Rows.{be32}
use Rattle.fits_table.proofs.rows.put_32.Goals as goal

pub returns : goal.returns
unfolding written be32
returns c =
    let v = c.args.value in
    let first : v / 16777216 % 256 ≡ v / 16777216 = omega arith in
    let bytes : c.to_be_bytes.result ≡ be32 v
    = c.to_be_bytes.ensures ∙ ap (λ (b : ℕ). b ∷ v / 65536 % 256 ∷ v / 256 % 256 ∷ v % 256 ∷ []) first in
    put_mid-paste c.args.at _ c.args.out.now _ (be32 v) 4 (c.copy_from_slice.ensures.after ∙ bytes) (omega arith) refl
    ∙ paste_all c.args.out.now c.args.at (be32 v) 4 refl
