use Rattle.exhash.proofs.CommitLemmas.{drafts, drafts_places}
use Rattle.exhash.proofs.disk_commit.drafted.Goals as goal

pub returns-in-Ok-clause-draft : goal.returns-in-Ok-clause-draft
returns-in-Ok-clause-draft c = drafts c.args.wards c.args.lows.now c.args.stamps c.in-Ok.draft c.requires c.in-Ok.ensures.ok

pub returns-in-Ok-clause-places : goal.returns-in-Ok-clause-places
returns-in-Ok-clause-places c = drafts_places c.args.wards c.args.lows.now c.args.stamps c.in-Ok.draft c.in-Ok.ensures.ok
