-- What an answer needs to know beside the record. Our own words.
use Rattle.std.specs.Prelude.{ℕ, ◌+◌, ◌%◌, ◌^◌, List}
use Rattle.mode6_nonce.specs.Nonces.{nonce_of}
use Rattle.net_addr.specs.declared.addr.Ip.{Ip}
use Rattle.sys_vars.specs.declared.context.Context.{Context}

-- when a request came, as a timestamp: its moment, after the time at which the server's clocks begin
abbrev pub time_of : Context → ℕ
time_of context = (context.origin.0 + context.moment) % 2 ^ 64

-- the nonce that a client at this address gets with a request that came in this context
abbrev pub nonce_for : Context → Ip → List ℕ
nonce_for context ip = nonce_of context.salt ip (time_of context)
