-- The jobs that are released are put into the table one after another, in the order of the list.
use Rattle.std.proofs.Common.{◌≡◌, ℕ, suc, ◌<◌, ◌≤◌, List, Option, Some, length, set, subst, ⊎_elim, arith}
use Rattle.edf.specs.Edf.{Unfinished}
use Rattle.edf.specs.Jobs.{Job, job}
use Rattle.run.proofs.Holding.{holds_more}
use Rattle.run.specs.Holding.{Keeping, Cursor, Admits}
use Rattle.run.specs.declared.ready.Ready.{Ready}
use Rattle.std.proofs.lemmas.Bool.{cases_lt}

module _ (jobs : List Job) (line_by_place : ℕ → ℕ) (keeping : Keeping jobs line_by_place) (s : ℕ) where
  pub admits_none : (n : ℕ) (table : List (Option Ready)) → Admits jobs line_by_place s n table n table
  admits_none n table σ settled holds = holds

  -- one job more that is released by s
  pub cursor_more : (n : ℕ) → Cursor jobs s s n → n < length jobs → (job jobs n).release ≤ s → Cursor jobs s s (suc n)
  cursor_more n cursor there released =
      record {
        within = omega arith;
        released = λ k l.
            ⊎_elim (λ (m : k < n). cursor.released k m)
            (λ (m : n ≤ k). let at : n ≡ k = omega arith in subst (λ j. (job jobs j).release ≤ s) at released)
            (cases_lt k n);
        ahead = λ k l there. cursor.ahead k (omega arith) there;
      }

  -- the jobs are in order, so those behind one that is released later are too
  pub cursor_all : (n : ℕ) → Cursor jobs s s n → (n < length jobs → s < (job jobs n).release) → Cursor jobs s (suc s) n
  cursor_all n cursor later =
      record {
        within = cursor.within;
        released = cursor.released;
        ahead = λ k l there. omega (arith, later (omega arith), keeping.ordered n k l there);
      }

  pub admits_more : (n m : ℕ) (table after : List (Option Ready)) (ready : Ready) → length after ≡ 8 → m < length jobs → Cursor jobs s s m → (job jobs m).release ≤ s → ready.rank.place ≡ m → ready.rank.deadline ≡ (job jobs m).deadline → ready.left ≡ (job jobs m).cost → Admits jobs line_by_place s n table m after → Admits jobs line_by_place s n table (suc m) (set after (line_by_place m) (Some ready))
  admits_more n m table after ready room there cursor released place deadline left admits σ settled holds =
      holds_more jobs line_by_place σ s after m ready (admits σ settled holds) (omega (arith, keeping.lined m there)) (omega (arith, keeping.wanting m there))
      (record { place = place; deadline = deadline; left = omega (arith, settled.unserved m there (cursor.ahead m (omega arith) there)) })
      free
    where
      free : (k : ℕ) → k < m → line_by_place k ≡ line_by_place m → Unfinished jobs σ k s → ⊥
      free k l same un =
          let due = keeping.apart k m l there same in
          omega (arith, un, settled.finished k (omega arith) (omega arith))
