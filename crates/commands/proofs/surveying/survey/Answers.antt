use Rattle.std.proofs.Common.{◌≡◌, ◌<◌, ℕ, List, None, Option, Some, arith, length, rules}
use Rattle.commands.specs.Surveying.{FirstUntaken, Surveys, checks_at, untaken_text}
use Rattle.commands.specs.declared.surveying.Untaken.{Untaken}
use Rattle.lines.specs.declared.row.Row.{Row}
use Rattle.refusal.specs.Answers.{refusal_of}
use Rattle.refusal.specs.declared.Refusal.{Refusal}
use Rattle.supply.specs.Meaning.{Meaning}
use Rattle.commands.proofs.surveying.survey.Goals as goal

-- The first answer that is there comes at one number only.
not_before : (f : ℕ → Option Refusal) (m n : ℕ) (r : Refusal) → ((k : ℕ) → k < n → f k ≡ None) → f m ≡ Some r → m < n → ⊥
not_before f m n r none here below = let gone : f m ≡ None = none m below in cc

same_number : (f : ℕ → Option Refusal) (m n : ℕ) (r s : Refusal) → ((k : ℕ) → k < m → f k ≡ None) → f m ≡ Some r → ((k : ℕ) → k < n → f k ≡ None) → f n ≡ Some s → m ≡ n
same_number f m n r s a here b there = let h : m < n → ⊥ = not_before f m n r b here in let k : n < m → ⊥ = not_before f n m s a there in omega arith

-- A text that tells the first line that can't be taken.
refused : (m : Meaning) (rows : List Row) (text : List ℕ) (untaken : Untaken) → FirstUntaken rows untaken → text ≡ untaken_text untaken → Surveys m rows text
refused m rows text untaken first told = record {
  survey = λ all. absurd (not_before (λ k. refusal_of (checks_at rows k)) untaken.number (length rows) untaken.refusal all first.2 first.0);
  refusal = λ other again.
      let same = same_number (λ k. refusal_of (checks_at rows k)) untaken.number other.number untaken.refusal other.refusal first.1 first.2 again.1 again.2 in cc;
}

pub returns-in-Err : goal.returns-in-Err
returns-in-Err g c = search (rules, refused)
