-- How a reader goes on: one record more, and the ways in which a sheet ends.
use Rattle.std.proofs.Common.{◌≡◌, ℕ, suc, ◌+◌, ◌-◌, ◌<◌, ◌≤◌, List, [], ◌∷◌, ◌++◌, map, length, drop, None, sym, refl, ap, ◌∙◌, subst, arith}
use Rattle.analysis.specs.History.{Reached, rows_after, watched_after}
use Rattle.grammar.proofs.Going.{good_push, rows_push, watched_push, calls_push}
use Rattle.grammar.proofs.History.{accepted_history}
use Rattle.grammar.proofs.Writing.{plain_lines}
use Rattle.grammar.specs.Reading.{rows_through, watched_through, AllMade, GoodTo, Accepted, Refused, Fault, by_sheet, at_later, behind_last}
use Rattle.grammar.specs.Records.{Record, line, certificate, call_of, calls_of, spelled, spelled_all, opening, closing, sheet}
use Rattle.grammar.specs.Supplies.{supply_of}
use Rattle.lines.specs.declared.row.Row.{Row}
use Rattle.refusal.specs.Answers.{refusal_of}
use Rattle.refusal.specs.declared.Refusal.{Refusal}
use Rattle.refusal.specs.declared.reason.Reason.TheVariants.{BytesAfterEnd}
use Rattle.roster.specs.Working.{checks, rows_in, watched_in}
use Rattle.roster.specs.declared.roster.Roster.{Roster}
use Rattle.sheet.specs.Reading.{Going, Leaves}
use Rattle.sheet.specs.Stepping.{Opens, Takes, Faulty}
use Rattle.std.proofs.lemmas.List.{drop-drop, drop_at, length-append, length-drop, length_push, nil_from_length}
use Rattle.supply.specs.Meaning.{Meaning}
use Rattle.supply.specs.Named.{named}
use Rattle.supply.specs.declared.named.Named.{Named}

-- a record is some bytes long
spelled_some : (r : Record) → 0 < length (spelled r)
spelled_some (line row) = omega arith
spelled_some (certificate d q cites) = omega arith

module _ (roster : Roster Named) (bytes : List ℕ) (at before : ℕ) (g : Going roster bytes at before) where
  -- the state that the records left, told of the roster, is told of the sheet
  told : (P : Meaning → List Row → List ℕ → Type 0) → P (named roster.supply) (rows_in roster) (watched_in roster) → P (supply_of g.fields) (rows_through [] (calls_of g.records)) (watched_through [] [] (calls_of g.records))
  told P h =
      subst (λ m. P m (rows_through [] (calls_of g.records)) (watched_through [] [] (calls_of g.records))) g.supply (subst (λ rows. P (named roster.supply) rows (watched_through [] [] (calls_of g.records))) g.lines (subst (λ watched. P (named roster.supply) (rows_in roster) watched) g.watched h))

  module _ (after : Roster Named) (size : ℕ) (took : Takes roster after (drop at bytes) size) where
    lengths : length bytes - at ≡ size + length took.more
    lengths =
        sym (length-drop at bytes) ∙ ap length took.rest_is ∙ length-append (spelled took.r) took.more ∙ ap (λ n. n + length took.more) (sym took.size_is)

    record_within : at + size ≤ length bytes
    record_within = omega (arith, lengths, g.within)

    pub record_some : 0 < size
    record_some = omega (arith, took.size_is, spelled_some took.r)

    behind : took.more ≡ drop (at + size) bytes
    behind =
        sym (drop_at (spelled took.r) took.more size (sym took.size_is)) ∙ ap (drop size) (sym took.rest_is) ∙ drop-drop size at bytes

    -- one record more
    pub going_more : Going after bytes (at + size) (before + 1)
    going_more = record {
      fields = g.fields;
      records = g.records ++ (took.r ∷ []);
      good = subst (λ rest. GoodTo bytes g.fields (g.records ++ (took.r ∷ [])) rest) behind (good_push bytes g.fields g.records (drop at bytes) took.more took.r g.good took.rest_is (told (λ m rows watched. refusal_of (checks m rows watched (call_of took.r)) ≡ None) took.passes));
      counted = omega (arith, g.counted, length_push g.records took.r);
      within = record_within;
      few = omega (arith, g.few, record_some);
      supply = ap named took.supply ∙ g.supply;
      lines = took.lines ∙ ap (λ rows. rows_after rows (call_of took.r)) g.lines ∙ sym (rows_push [] (calls_of g.records) (call_of took.r)) ∙ ap (rows_through []) (sym (calls_push g.records took.r));
      watched = took.watched ∙ ap (λ rows. watched_after rows (watched_in roster) (call_of took.r)) g.lines ∙ ap (λ watched. watched_after (rows_through [] (calls_of g.records)) watched (call_of took.r)) g.watched ∙ sym (watched_push [] [] (calls_of g.records) (call_of took.r)) ∙ ap (watched_through [] []) (sym (calls_push g.records took.r));
    }

  module _ (short : length bytes ≤ 16384) where
    -- a record is at fault
    pub going_fault : (why : Refusal) → Faulty roster before (drop at bytes) why → Refused bytes why (before + 1) at
    going_fault why fault =
        let place : length bytes - length (drop at bytes) ≡ at = omega (arith, length-drop at bytes, g.within) in
        let number : 2 + length g.records ≡ before + 1 = omega (arith, g.counted) in
        let at-fault = told (λ m rows watched. Fault m rows watched (suc (length g.records)) (drop at bytes) why) (subst (λ n. Faulty roster n (drop at bytes) why) g.counted fault) in
        subst (λ n. Refused bytes why n at) number (subst (λ n. Refused bytes why (2 + length g.records) n) place (at_later g.fields g.records (drop at bytes) why short g.good at-fault))

    module _ (more : List ℕ) (rest_is : drop at bytes ≡ closing before ++ more) where
      ends : GoodTo bytes g.fields g.records (closing (suc (length g.records)) ++ more)
      ends =
          subst (λ rest. GoodTo bytes g.fields g.records rest) (rest_is ∙ ap (λ n. closing n ++ more) g.counted) g.good

      lengths_last : length bytes - at ≡ 4 + length more
      lengths_last = sym (length-drop at bytes) ∙ ap length rest_is ∙ omega arith

      pub last_within : at + 4 ≤ length bytes
      last_within = omega (arith, lengths_last, g.within)

      -- bytes stand behind the last record
      pub going_behind : at + 4 < length bytes → Refused bytes (by_sheet BytesAfterEnd) (before + 2) (at + 4)
      going_behind l =
          let place : length bytes - length more ≡ at + 4 = omega (arith, lengths_last, g.within) in
          let number : 3 + length g.records ≡ before + 2 = omega (arith, g.counted) in
          subst (λ n. Refused bytes (by_sheet BytesAfterEnd) n (at + 4)) number (subst (λ n. Refused bytes (by_sheet BytesAfterEnd) (3 + length g.records) n) place (behind_last g.fields g.records more short ends (omega (arith, lengths_last))))

      -- nothing does: the roster is what the sheet leaves
      pub going_done : length bytes ≤ at + 4 → Leaves bytes roster
      going_done l =
          let none : more ≡ [] = nil_from_length more (omega (arith, lengths_last)) in
          let good = subst (λ rest. GoodTo bytes g.fields g.records rest) (ap (λ t. closing (suc (length g.records)) ++ t) none) ends in
          let all : Accepted bytes g.fields g.records = record { within = short; good = good } in
          let reached = accepted_history bytes g.fields g.records all in
          record {
            fields = g.fields;
            records = g.records;
            accepted = all;
            supply_is_that_named = g.supply;
            lines_after_its_calls = g.lines;
            watched_after_its_calls = g.watched;
            calls_are_its_history = subst (λ m. Reached m (calls_of g.records) (rows_in roster) (watched_in roster)) (sym g.supply) (subst (λ rows. Reached (supply_of g.fields) (calls_of g.records) rows (watched_in roster)) (sym g.lines) (subst (λ watched. Reached (supply_of g.fields) (calls_of g.records) (rows_through [] (calls_of g.records)) watched) (sym g.watched) reached));
            lines_alone_are_rewritten = λ rows plain. good.bytes_are ∙ ap (sheet g.fields) (plain ∙ ap (map line) (sym (g.lines ∙ ap (λ rs. rows_through [] (calls_of rs)) plain ∙ plain_lines rows)));
          }

-- behind the first record: a roster that was opened over the supply that it names
pub going_first : (roster : Roster Named) (bytes : List ℕ) (supply : Named) → Opens bytes supply → roster.supply ≡ supply → rows_in roster ≡ [] → watched_in roster ≡ [] → Going roster bytes 13 1
unfolding rows_through watched_through AllMade spelled_all
going_first roster bytes supply opens over lines watched =
    let behind : opens.more ≡ drop 13 bytes = sym (ap (drop 13) opens.bytes_are) in
    let long : length bytes ≡ 13 + length opens.more = ap length opens.bytes_are ∙ omega arith in
    record {
      fields = opens.fields;
      records = [];
      good = record {
        bytes_are = opens.bytes_are ∙ ap (λ rest. opening opens.fields ++ rest) behind;
        supply_named = opens.supply_named;
        calls_made = tt;
      };
      counted = refl;
      within = omega arith;
      few = omega arith;
      supply = ap named over ∙ opens.meaning_is;
      lines = lines;
      watched = watched;
    }
