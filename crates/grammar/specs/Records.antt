-- The records of a sheet, and the bytes that spell each. Assumes nothing.
use Rattle.std.specs.Prelude.{ℕ, suc, List, [], ◌∷◌, ◌++◌, map, length, codes}
use Rattle.analysis.specs.History.{Call, enrol, cut}
use Rattle.analysis.specs.Watching.{Cite}
use Rattle.grammar.specs.Bytes.{two, eight}
use Rattle.grammar.specs.declared.fields.Fields.{Fields}
use Rattle.lines.specs.declared.row.Row.{Row}

-- A record between the first and the last is a line, or a certificate by which a deadline is cut.
pub data Record : Type 0 where
  line : Row → Record
  certificate : (deadline divisor : ℕ) → List Cite → Record

-- The call on a roster that it asks for.
abbrev pub call_of : Record → Call
call_of (line row) = enrol row
call_of (certificate deadline divisor cites) = cut deadline divisor cites

abbrev pub calls_of : List Record → List Call
calls_of records = map call_of records

-- A cite is spelled by its deadline and its weight.
unfoldable pub spelled_cites : List Cite → List ℕ
spelled_cites [] = []
spelled_cites (cite ∷ cites) = two cite.deadline ++ (two cite.weight ++ spelled_cites cites)

-- A line has the mark LN, and then its period, its deadline and its cost. A certificate has the mark CU, and then its
-- deadline, its divisor, the number of its cites, and the cites.
abbrev pub spelled : Record → List ℕ
spelled (line row) = codes "LN" ++ (two row.period ++ (two row.deadline ++ two row.cost))
spelled (certificate deadline divisor cites) =
    codes "CU" ++ (two deadline ++ (two divisor ++ (length cites ∷ spelled_cites cites)))

-- The first record has the mark SU, and names the supply.
abbrev pub opening : Fields → List ℕ
opening fields =
    codes "SU" ++ (fields.length ∷ (eight fields.word ++ (fields.share ∷ fields.of ∷ [])))

-- The last has the mark EN, and counts the records before it.
abbrev pub closing : ℕ → List ℕ
closing before = codes "EN" ++ two before

-- Records one after another.
unfoldable pub spelled_all : List Record → List ℕ
spelled_all [] = []
spelled_all (r ∷ records) = spelled r ++ spelled_all records

-- A whole sheet.
abbrev pub sheet : Fields → List Record → List ℕ
sheet fields records = opening fields ++ (spelled_all records ++ closing (suc (length records)))
