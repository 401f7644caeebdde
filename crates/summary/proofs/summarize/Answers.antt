use Rattle.summary.proofs.summarize.Goals as goal

pub returns-in-Ok : goal.returns-in-Ok
returns-in-Ok c =
    let counts = c.counts-counts.ensures in
    rw (← c.in-Ok.ensures.answer, ← counts.messages, ← counts.notes) c.format.ensures.ok
