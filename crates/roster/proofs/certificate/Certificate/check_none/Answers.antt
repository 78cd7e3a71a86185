use Rattle.std.proofs.Common.{◌≡◌, ◌+◌, true, false, Some, None, sym, ap, ◌∙◌, inl, arith}
use Rattle.refusal.proofs.Checks.{refused_at}
use Rattle.roster.proofs.Each.{none_bad, first_bad}
use Rattle.roster.proofs.Spelling.{few_cites}
use Rattle.roster.proofs.certificate.Certificate.check_none.Goals as goal
use Rattle.roster.specs.Certificate.{cites_of}
use Rattle.roster.specs.Cites.{cite_of, cites_left}
use Rattle.std.proofs.lemmas.Iterator.{IsFirst-from_position}
use Rattle.std.proofs.lemmas.Iterator.Consumers.{YieldsList-from_first}

pub position-requires-clause-fits : goal.position-requires-clause-fits
position-requires-clause-fits g c = inl (omega (arith, few_cites c.cites.result.bytes.now c.cites.result.whole))

pub overflow_cast-k : goal.overflow_cast-k
overflow_cast-k g c = omega (arith, c.in-Some.ensures.bound, few_cites c.cites.result.bytes.now c.cites.result.whole)

pub overflow_add-k : goal.overflow_add-k
overflow_add-k g c = omega (arith, c.in-Some.ensures.bound, few_cites c.cites.result.bytes.now c.cites.result.whole)

pub returns-in-None : goal.returns-in-None
returns-in-None g c fails computes =
    let cites = cites_of c.args.self.now.bytes.now in
    let h = IsFirst-from_position c.position.new.self c.args.bad None (λ x. fails x ≡ true) (λ x. fails x ≡ false) c.in-None.ensures.ran (YieldsList-from_first cite_of cites_left cites c.cites.ensures) (λ x q k. sym (computes x true ((g.met.F.FnMut.1.post_iff _ _ _).1 (q, record { met = k.met })))) (λ x q k. (g.met.F.Fn.1.step_stays _ _ _ _ (record { met = k.met }), sym (computes x false ((g.met.F.FnMut.1.post_iff _ _ _).1 (q, record { met = k.met }))))) in
    (none_bad fails c.args.reason 1 cites h, tt)

pub returns-in-Some : goal.returns-in-Some
returns-in-Some g c fails computes =
    let cites = cites_of c.args.self.now.bytes.now in
    let h = IsFirst-from_position c.position.new.self c.args.bad (Some c.in-Some.k) (λ x. fails x ≡ true) (λ x. fails x ≡ false) c.in-Some.ensures.ran (YieldsList-from_first cite_of cites_left cites c.cites.ensures) (λ x q k. sym (computes x true ((g.met.F.FnMut.1.post_iff _ _ _).1 (q, record { met = k.met })))) (λ x q k. (g.met.F.Fn.1.step_stays _ _ _ _ (record { met = k.met }), sym (computes x false ((g.met.F.FnMut.1.post_iff _ _ _).1 (q, record { met = k.met }))))) in
    first_bad fails c.args.reason 1 cites c.in-Some.k h.0 h.1 h.2 ∙ ap Some (refused_at _ _ c.args.reason (1 + c.in-Some.k) c.by.ensures.layer_and_reason_at_place_0 c.at.ensures.place_alone_is_new)
