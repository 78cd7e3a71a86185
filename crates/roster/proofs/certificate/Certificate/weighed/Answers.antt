use Rattle.std.proofs.Common.{◌*◌, sym, refl, ap, ◌∙◌, arith, rules}
use Rattle.analysis.specs.Watching.{Cite}
use Rattle.roster.proofs.Spelling.{few_cites}
use Rattle.roster.proofs.Summing.{weighed_sum}
use Rattle.roster.proofs.certificate.Certificate.weighed.Goals as goal
use Rattle.roster.specs.Certificate.{cites_of}
use Rattle.roster.specs.Cites.{cite_of, cites_left}
use Rattle.std.proofs.lemmas.Iterator.{YieldsList-from_map}
use Rattle.std.proofs.lemmas.Iterator.Adapters.{fits_from_length, at_most_from_yields_List}
use Rattle.std.proofs.lemmas.Iterator.Consumers.{YieldsList-from_first, sum_by_from_yields_List}

pub sum-requires-clause-fits : goal.sum-requires-clause-fits
sum-requires-clause-fits g c =
    fits_from_length _ _ 8 _ (at_most_from_yields_List (YieldsList-from_first cite_of cites_left (cites_left c.map.result.iter) refl) (few_cites c.map.result.iter.bytes.now c.map.result.iter.whole)) c.map.ensures.closure (omega arith) (λ x r q k. search rules)

pub returns : goal.returns
returns g c f computes =
    let cites = cites_of c.args.self.now.bytes.now in
    let brings = λ (cite : Cite). cite.weight * f cite.deadline in
    sum_by_from_yields_List brings cites c.map.result c.sum.result c.sum.ensures.ran (YieldsList-from_map _ brings (YieldsList-from_first cite_of cites_left cites (ap cites_left c.map.ensures.source ∙ c.cites.ensures)) c.map.ensures.closure (λ x r q k. search rules)) ∙ sym (weighed_sum f cites)
