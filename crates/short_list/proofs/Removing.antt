-- The values behind one, moved down over it.
use Rattle.std.proofs.Common.{◌≡◌, ℕ, suc, ◌+◌, ◌-◌, ◌<◌, ◌≤◌, List, ◌++◌, length, take, drop, sym, ap, ◌∙◌, ap₂, add-one, arith}
use Rattle.std.proofs.lemmas.List.Edits.{take-paste}
use Rattle.std.proofs.lemmas.List.{length-drop, take-take, drop-take}
use Rattle.std.specs.List.{remove}
use lib.Seq.{paste}

module _ {T : Type 0} where
  shifted : (xs : List T) (at n : ℕ) → at + suc n ≤ length xs → take (at + n) (paste xs at (drop (suc at) xs) n) ≡ remove (take (suc at + n) xs) at
  shifted xs at n le =
      let short = length-drop (suc at) xs in
      take-paste xs at (drop (suc at) xs) n (omega arith) (omega arith) ∙ ap₂ (λ ys zs. ys ++ zs) (sym (take-take at (suc at + n) xs (omega arith))) (sym (drop-take (suc at) n xs))

  pub front_removed : (xs : List T) (len at : ℕ) → at < len → len ≤ length xs → take (len - 1) (paste xs at (drop (at + 1) xs) (len - (at + 1))) ≡ remove (take len xs) at
  front_removed xs len at l le =
      let one : len - 1 ≡ at + (len - suc at) = omega arith in
      let whole : suc at + (len - suc at) ≡ len = omega arith in
      ap (λ k. take k (paste xs at (drop (at + 1) xs) (len - (at + 1)))) one ∙ ap (λ k. take (at + (len - suc at)) (paste xs at (drop k xs) (len - k))) (add-one at) ∙ shifted xs at (len - suc at) (omega arith) ∙ ap (λ k. remove (take k xs) at) whole
