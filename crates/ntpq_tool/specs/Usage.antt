-- What `ntpq` says of itself, where one word alone asks for it: our own rule.
use Rattle.std.specs.Prelude.{ℕ, List}
use Rattle.command_line.specs.declared.notices.Notice.{Notice}
use Rattle.command_line.specs.declared.notices.Notice.TheVariants.{Help, Version}
use Rattle.ntpq_tool.specs.declared.usage.TheConstants.{HELP, VERSION}

-- the text of a notice of `ntpq`
abbrev pub notice_text : Notice → List ℕ
notice_text Help = HELP.now
notice_text Version = VERSION.now
