use Rattle.std.proofs.Common.{◌≡◌, ◌+◌, [], length, ap, sym, ◌∙◌, Result, Ok, Err, inl, arith}
use Rattle.std.specs.Prelude.{MatchResult}
use Rattle.std.specs.Vec.Iter.{into_iter_items}
use Rattle.std.specs.declared.thread.PromisedHandle.{PromisedHandle}
use Rattle.std.proofs.lemmas.List.Elements.{All-nil, All-push, All-same}
use Rattle.exh_page.specs.declared.storm_config.StormConfig.{StormConfig}
use Rattle.exh_live.specs.Refusals.{HasCounted, IsRefusedCaller}
use Rattle.exh_live.specs.StormCalls.{IsServed}
use Rattle.exh_live.specs.declared.seat.Seat.{Seat}
use Rattle.exh_live.specs.declared.fault.StormFault.{StormFault}
use Rattle.exh_live.specs.declared.fault.StormFault.TheVariants.{Memory}
use Rattle.exh_live.specs.declared.threads.Worker.{Worker}
use Rattle.exh_live.proofs.FirstRefusals.{OfCaller, first_more, first_none, from_more, from_next, from_none, joined, one_refused, one_seat_more, served_by, total_more}
use Rattle.exh_live.proofs.threads.join_callers.Given.{Over}
use Rattle.exh_live.proofs.threads.join_callers.Goals as goal

abbrev Handle : Over → Type 0
Handle g = PromisedHandle (Result (Seat g.row.F.Denot) StormFault) (Worker g.row.P.Denot g.row.G.Denot)

pub loop-thread-init : goal.loop-thread-init
loop-thread-init g c =
    let gives = c.into_iter-thread-iterator.ensures.into_iter_gives in
    let none = c.in_ok-outcomes.ensures.items in
    record {
      len = omega (arith, gives.1, ap length gives.0, c.args.threads.ok);
      total = omega (arith, ap length none, ap length gives.0, c.requires.0);
      left = from_none (λ place (thread : Result (Handle g) StormFault). MatchResult thread (λ handle. (handle.promise.number ≡ place + 1) × (handle.promise.config ≡ c.args.config) × (handle.promise.gate.value ≡ c.args.gate.now)) (λ fault. fault ≡ Memory)) (c.args.config.callers) c.args.threads.items _ c.in_ok-outcomes.outcomes.items none gives.0 c.requires;
      outcomes = first_none (OfCaller (HasCounted g.P.Pages.failures) (g.G.Gate.may c.args.gate.now) c.args.config) c.in_ok-outcomes.outcomes.items none;
      seats = All-same (IsServed c.args.config.calls) c.in_ok-seats.seats.items [] c.in_ok-seats.ensures.items (All-nil (IsServed c.args.config.calls));
      as_many = λ _. ap length c.in_ok-seats.ensures.items ∙ sym (ap length none);
    }

pub loop-thread-preserved-in-Continue-branch-4 : goal.loop-thread-preserved-in-Continue-branch-4
loop-thread-preserved-in-Continue-branch-4 g c =
    let was = c.loop-thread.invariant in
    let step = c.in-Some.ensures.steps in
    let made = c.loop-thread.outcomes.items in
    let new = c.push-in-Ok.new.self.items in
    let thread = c.in-Some.thread in
    let more = c.in_ok-push-in-Ok-2.ensures.items in
    let next = from_next (λ place (thread : Result (Handle g) StormFault). MatchResult thread (λ handle. (handle.promise.number ≡ place + 1) × (handle.promise.config ≡ c.args.config) × (handle.promise.gate.value ≡ c.args.gate.now)) (λ fault. fault ≡ Memory)) (length made) thread (into_iter_items c.loop-thread.thread-iterator) (into_iter_items c.next.new.self) step.0 was.left in
    let served = served_by (λ (handle : Handle g). handle.promise.config.calls) c.args.config.calls _ (λ fault. fault ≡ Memory) c.in-Ok.seat thread (λ handle worker. ap (λ (config : StormConfig). config.calls) worker.1) next.0 c.in-Ok.ensures.served in
    let more_seats = c.in_ok-push-in-Ok.ensures.items in
    record {
      len = omega (arith, was.len, step.1, ap length step.0);
      total = total_more c.args.config.callers thread _ _ made (Ok tt) new step.0 more was.total;
      left = from_more (λ place (thread : Result (Handle g) StormFault). MatchResult thread (λ handle. (handle.promise.number ≡ place + 1) × (handle.promise.config ≡ c.args.config) × (handle.promise.gate.value ≡ c.args.gate.now)) (λ fault. fault ≡ Memory)) (into_iter_items c.next.new.self) made (Ok tt) new more next.1;
      outcomes = first_more (OfCaller (HasCounted g.P.Pages.failures) (g.G.Gate.may c.args.gate.now) c.args.config) made (Ok tt) new more was.outcomes tt;
      seats = All-same (IsServed c.args.config.calls) c.push.new.self.items _ more_seats (All-push (IsServed c.args.config.calls) c.loop-thread.seats.items c.in-Ok.seat was.seats served);
      as_many = one_seat_more c.loop-thread.seats.items made new was.as_many c.in-Ok.seat c.push.new.self.items more_seats more;
    }

pub loop-thread-preserved : goal.loop-thread-preserved
loop-thread-preserved g c =
    let was = c.loop-thread.invariant in
    let step = c.in-Some.ensures.steps in
    let made = c.loop-thread.outcomes.items in
    let new = c.push-in-Err.new.self.items in
    let thread = c.in-Some.thread in
    let more = c.in_ok-push-in-Err.ensures.items in
    let next = from_next (λ place (thread : Result (Handle g) StormFault). MatchResult thread (λ handle. (handle.promise.number ≡ place + 1) × (handle.promise.config ≡ c.args.config) × (handle.promise.gate.value ≡ c.args.gate.now)) (λ fault. fault ≡ Memory)) (length made) thread (into_iter_items c.loop-thread.thread-iterator) (into_iter_items c.next.new.self) step.0 was.left in
    let told : Result (Seat g.row.F.Denot) StormFault = Err c.in-Err.fault in
    let kept = joined (λ (config : StormConfig) (gate : g.row.G.Denot) number. IsRefusedCaller (HasCounted g.P.Pages.failures) config.ward_bits (g.G.Gate.may gate) config.calls number) (λ (handle : Handle g). handle.promise.number) (λ (handle : Handle g). handle.promise.config) (λ (handle : Handle g). handle.promise.gate.value)
    (length made + 1) c.args.config c.args.gate.now thread told (λ fault memory. inl memory) next.0 c.in-Err.ensures.fault in
    record {
      len = omega (arith, was.len, step.1, ap length step.0);
      total = total_more c.args.config.callers thread _ _ made (Err c.in-Err.fault) new step.0 more was.total;
      left = from_more (λ place (thread : Result (Handle g) StormFault). MatchResult thread (λ handle. (handle.promise.number ≡ place + 1) × (handle.promise.config ≡ c.args.config) × (handle.promise.gate.value ≡ c.args.gate.now)) (λ fault. fault ≡ Memory)) (into_iter_items c.next.new.self) made (Err c.in-Err.fault) new more next.1;
      outcomes = first_more (OfCaller (HasCounted g.P.Pages.failures) (g.G.Gate.may c.args.gate.now) c.args.config) made (Err c.in-Err.fault) new more was.outcomes kept;
      seats = was.seats;
      as_many = one_refused c.loop-thread.seats.items made new was.as_many c.in-Err.fault more;
    }

pub loop-thread-smaller : goal.loop-thread-smaller
loop-thread-smaller g c = omega (arith, c.in-Some.ensures.steps.1)

pub returns-clause-served : goal.returns-clause-served
returns-clause-served g c = c.loop-thread.invariant.seats

pub returns-clause-outcomes : goal.returns-clause-outcomes
returns-clause-outcomes g c =
    let was = c.loop-thread.invariant in
    let all : length c.loop-thread.outcomes.items ≡ c.args.config.callers = omega (arith, was.total, was.len, c.in-None.ensures.steps.0) in
    (all, was.outcomes.1)

pub returns-clause-all : goal.returns-clause-all
returns-clause-all g c =
    let was = c.loop-thread.invariant in
    let all : length c.loop-thread.outcomes.items ≡ c.args.config.callers = omega (arith, was.total, was.len, c.in-None.ensures.steps.0) in
    λ none. was.as_many none ∙ all
