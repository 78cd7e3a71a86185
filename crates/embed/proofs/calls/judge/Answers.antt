use Rattle.embed.proofs.calls.judge.Goals as goal

pub returns : goal.returns
returns c =
    let leaves = c.in_ok-from_bytes.ensures.read_by_the_grammar in
    record {
      roster = c.in_ok-from_bytes.field-0;
      left_by_the_sheet = leaves;
      least_overload_or_none = c.verdict.ensures.least_overload_or_none;
      exact_on_its_lines = c.verdict.ensures.exact_after_any_calls _ leaves.calls_are_its_history;
    }
