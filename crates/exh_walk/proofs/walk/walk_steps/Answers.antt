use Rattle.exh_walk.proofs.walk.walk_steps.Goals as goal

pub returns-clause-walked : goal.returns-clause-walked
returns-clause-walked g c = c.walks_are_walked.ensures c.args.at c.args.client c.args.call.now c.pseudokey-pseudokey.result _ _ c.pseudokey-pseudokey.ensures c.walk_hashed.ensures.walk
