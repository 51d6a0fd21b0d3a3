use Rattle.edge_traits.proofs.MemoryLemmas.{Grows-readings_told, readings_told-next}
use Rattle.edge_traits.proofs.memory_clock.MemoryClockClock.now.Goals as goal

pub returns-clause-told : goal.returns-clause-told
returns-clause-told c =
    Grows-readings_told _ c.args.self.now.given _ _ c.saturating_add-self.ensures c.next_reading-reading.ensures

pub returns-clause-told_while_counted : goal.returns-clause-told_while_counted
returns-clause-told_while_counted c =
    readings_told-next _ c.args.self.now.given _ _ c.saturating_add-self.ensures c.next_reading-reading.ensures
