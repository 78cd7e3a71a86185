-- One byte more than the longest sheet has decides as all of a longer input does.
use Rattle.std.proofs.Common.{◌≡◌, ℕ, ◌-◌, ◌<◌, ◌≤◌, List, length, take, drop, None, Some, Option, IfSome, sym, ap, ◌∙◌, subst, ⊎_elim, arith}
use Rattle.grammar.specs.Reading.{Refused, too_long, at_first, at_later, behind_last}
use Rattle.refusal.specs.declared.Refusal.{Refusal}
use Rattle.report.specs.Printing.{PrintsReport}
use Rattle.roster.specs.Lent.{fronted}
use Rattle.sheet.specs.Reports.{Reports, accepted, refused}
use Rattle.std.proofs.lemmas.Bool.{cases_lt}
use Rattle.std.proofs.lemmas.List.{length-take-le, take_all, take_at}
use Rattle.std.specs.Io.KnownBytes.{Appends}
use Rattle.std.specs.Io.Take.{take_remaining}

module _ (bytes : List ℕ) where
  abbrev front : List ℕ
  front = take 16385 bytes

  module _ (long : 16385 ≤ length bytes) where
    -- a longer input and its front are refused alike, for their length
    refused_alike : (why : Refusal) (number byte : ℕ) → Refused front why number byte → Refused bytes why number byte
    refused_alike why number byte (too_long over) = too_long (omega arith)
    refused_alike why number byte (at_first w short fault) = absurd (omega (arith, short, length-take-le 16385 bytes long))
    refused_alike why number byte (at_later f rs rest w short good fault) = absurd (omega (arith, short, length-take-le 16385 bytes long))
    refused_alike why number byte (behind_last f rs more short good some) = absurd (omega (arith, short, length-take-le 16385 bytes long))

    long_alike : (text : List ℕ) → Reports front text → Reports bytes text
    long_alike text (accepted roster verdict leaves least exact) = absurd (omega (arith, leaves.accepted.within, length-take-le 16385 bytes long))
    long_alike text (refused e turned) = refused e (refused_alike e.refusal e.«record» e.byte turned)

  -- so the report on the front of an input is the report on all of it
  pub reports_alike : (text : List ℕ) → Reports front text → Reports bytes text
  reports_alike text reports =
      ⊎_elim (λ (l : length bytes < 16385). subst (λ sheet. Reports sheet text) (take_all 16385 bytes (omega arith)) reports) (λ (l : 16385 ≤ length bytes). long_alike l text reports) (cases_lt (length bytes) 16385)

-- what is handed over of a list is the text that was written over its front
pub text_handed : (text list after : List ℕ) (n : ℕ) → n ≡ length text → after ≡ fronted text list → take (n - 0) after ≡ text
text_handed text list after n long holds =
    let all : n - 0 ≡ n = omega arith in
    ap (λ k. take k after) all ∙ ap (take n) holds ∙ take_at text (drop (length text) list) n (sym long)

-- what a reader has left up to a limit, if it is known
abbrev pub up_to : (limit : ℕ) → (known : Option (List ℕ)) → Option (List ℕ)
up_to limit known = take_remaining {R = Option (List ℕ)} (λ k. k) (record { inner = known; limit = limit })

-- what is printed of an input whose bytes are known
pub printed_alike : (known before after : Option (List ℕ)) (sheet text : List ℕ) → IfSome (up_to 16385 known) (λ front. sheet ≡ front) → Reports sheet text → Appends before after text → IfSome known (λ bytes. PrintsReport bytes before after)
printed_alike None before after sheet text read reports printed = tt
printed_alike (Some bytes) before after sheet text read reports printed = record {
  text = text;
  reports = reports_alike bytes text (subst (λ front. Reports front text) read reports);
  printed = printed;
}
