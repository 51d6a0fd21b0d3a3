-- The constants by their numbers, draws by example, and the first and the last client.
use Rattle.std.proofs.Common.{◌≡◌, [], ◌∷◌, refl}
use Rattle.draws.specs.Clients.{client_ip}
use Rattle.draws.specs.Draws.{drawn, next_state}
use Rattle.draws.specs.declared.clients.TheConstants.{CLIENTS}
use Rattle.draws.specs.declared.draws.TheConstants.{FACTOR, INCREMENT}
use Rattle.net_addr.specs.declared.addr.Ip.TheVariants.{V4}

FACTOR-is : FACTOR ≡ 6364136223846793005
FACTOR-is = refl

INCREMENT-is : INCREMENT ≡ 1442695040888963407
INCREMENT-is = refl

CLIENTS-is : CLIENTS ≡ 600
CLIENTS-is = refl

-- the state wraps at 64 bits
first_state : next_state 7 ≡ 9098160460397411210
first_state = refl

first_draw : drawn 7 ≡ 1059165278
first_draw = refl

second_draw : drawn (next_state 7) ≡ 2052263231
second_draw = refl

first_client : client_ip 0 ≡ V4 (10 ∷ 0 ∷ 0 ∷ 0 ∷ [])
first_client = refl

last_client : client_ip 599 ≡ V4 (10 ∷ 0 ∷ 2 ∷ 87 ∷ [])
last_client = refl
