use Rattle.exh_live.proofs.run.serve.Goals as goal

pub run_all-requires-clause-couriers : goal.run_all-requires-clause-couriers
run_all-requires-clause-couriers g c = λ lifetimes outlive. (c.in_ok-workers.ensures.couriers.0, λ place courier there. (c.in_ok-workers.ensures.couriers.1 place courier there).0)
