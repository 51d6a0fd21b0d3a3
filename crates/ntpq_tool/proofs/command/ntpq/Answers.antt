use Rattle.ntpq_tool.proofs.EndingLemmas.{answered-status, words-status, no_command-status}
use Rattle.ntpq_tool.proofs.command.ntpq.Goals as goal

pub returns-clause-words : goal.returns-clause-words
returns-clause-words g c = words-status _ _ _ _ _ _ _ c.run_words-ending.ensures.happens c.report.ensures.reported

pub returns-clause-no_command : goal.returns-clause-no_command
returns-clause-no_command g c = no_command-status _ _ _ _ _ _ _ c.run_words-ending.ensures.happens c.report.ensures.reported

pub returns-clause-answered : goal.returns-clause-answered
returns-clause-answered g c = answered-status _ _ _ _ _ _ _ c.run_words-ending.ensures.happens c.report.ensures.reported
