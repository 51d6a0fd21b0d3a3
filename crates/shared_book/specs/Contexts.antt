-- What the parts of a server know of a datagram that came: our own words.
use Rattle.std.specs.Prelude.{ℕ}
use Rattle.sys_vars.specs.declared.context.Context.{Context}
use Rattle.shared_book.specs.declared.common.Common.{Common}

-- what an answer needs to know beside the server, of a datagram that came at this moment
abbrev pub context_at : Common → ℕ → Context
context_at common came = record { origin = common.origin; moment = came; salt = common.salt }
