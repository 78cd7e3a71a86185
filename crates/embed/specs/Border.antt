-- How the library's answers are told to C code: the number of each kind and layer, in every case. Assumes nothing.
use Rattle.std.specs.Prelude.{ℕ, Some, None, Ok, Err, Option, Result}
use Rattle.embed.specs.declared.answers.Refused.{Refused}
use Rattle.embed.specs.declared.answers.ReportAnswer.{ReportAnswer}
use Rattle.embed.specs.declared.answers.RunAnswer.{RunAnswer}
use Rattle.embed.specs.declared.answers.VerdictAnswer.{VerdictAnswer}
use Rattle.refusal.specs.Numbers.{number_of}
use Rattle.refusal.specs.declared.Refusal.{Refusal}
use Rattle.refusal.specs.declared.layer.Layer as layer
use Rattle.refusal.specs.declared.layer.Layer.{Layer}
use Rattle.run.specs.declared.outcome.Outcome.{Outcome}
use Rattle.run.specs.declared.outcome.Outcome.TheVariants.{Met, Missed}
use Rattle.sheet.specs.declared.sheet_refusal.SheetRefusal.{SheetRefusal}

-- The layers, from 1.
abbrev pub layer_code : Layer → ℕ
layer_code layer.TheVariants.Supply = 1
layer_code layer.TheVariants.Roster = 2
layer_code layer.TheVariants.Run = 3
layer_code layer.TheVariants.Sheet = 4

-- A refusal with the record and the byte of the sheet.
abbrev pub refused_as : SheetRefusal → Refused
refused_as e = record {
  number = number_of e.refusal.reason;
  layer = layer_code e.refusal.layer;
  place = e.refusal.place;
  «record» = e.«record»;
  byte = e.byte;
}

-- A refusal that is not about the sheet's bytes: its record and its byte are 0.
abbrev pub without_record : Refusal → SheetRefusal
without_record why = record { refusal = why; «record» = 0; byte = 0 }

-- How a run on the lines of a sheet ends, with its own refusals.
abbrev pub on_sheet : Result Outcome Refusal → Result Outcome SheetRefusal
on_sheet (Ok o) = Ok o
on_sheet (Err e) = Err (without_record e)

-- Nothing is refused: all is 0.
abbrev pub nothing : Refused
nothing = record { number = 0; layer = 0; place = 0; «record» = 0; byte = 0 }

-- A report: refused is 0, written is 1.
abbrev pub report_as : Result ℕ Refusal → ReportAnswer
report_as (Ok n) = record { kind = 1; length = n; refused = nothing }
report_as (Err e) = record { kind = 0; length = 0; refused = refused_as (without_record e) }

-- A verdict: refused is 0, fits is 1, overloaded is 2.
abbrev pub verdict_as : Result (Option ℕ) SheetRefusal → VerdictAnswer
verdict_as (Ok None) = record { kind = 1; deadline = 0; refused = nothing }
verdict_as (Ok (Some t)) = record { kind = 2; deadline = t; refused = nothing }
verdict_as (Err e) = record { kind = 0; deadline = 0; refused = refused_as e }

-- A run: refused is 0, met is 1, missed is 2.
abbrev pub run_as : Result Outcome SheetRefusal → RunAnswer
run_as (Ok Met) = record { kind = 1; job = 0; at = 0; refused = nothing }
run_as (Ok (Missed job at)) = record { kind = 2; job = job; at = at; refused = nothing }
run_as (Err e) = record { kind = 0; job = 0; at = 0; refused = refused_as e }
