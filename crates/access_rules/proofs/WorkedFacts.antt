-- Our constants by their numbers, and worked values of the words.
use Rattle.std.proofs.Common.{◌≡◌, ◌*◌, ◌-◌, ◌^◌, true, false, List, [], ◌∷◌, Some, None, refl, lit≤}
use Rattle.net_addr.specs.Addresses.{number_of}
use Rattle.net_addr.specs.declared.addr.Ip.TheVariants.{V4, V6}
use Rattle.net_addr.specs.declared.prefix.Prefix.{Prefix}
use Rattle.access_rules.specs.declared.flags.TheConstants.{IGNORE, KOD, LIMITED, NOMODIFY, NOMRULIST, NOQUERY, NOSERVE, NOTRUST, VERSION}
use Rattle.access_rules.specs.declared.rate.Rate.{Rate}
use Rattle.access_rules.specs.declared.rate.TheConstants.{ARRIVAL_SCORE, PLAIN_AVERAGE, PLAIN_BURST, PLAIN_SPACING}
use Rattle.access_rules.specs.declared.rules.Rule.{Rule}
use Rattle.access_rules.specs.declared.rules.TheConstants.{MAX_RULES}
use Rattle.access_rules.specs.declared.servers.TheConstants.{MAX_POLL, MAX_SERVERS, MIN_POLL}
use Rattle.access_rules.specs.Flags.{has_flag, joined}
use Rattle.access_rules.specs.Order.{prefix_before, same_prefix}
use Rattle.access_rules.specs.Rates.{is_over, leak_of, score_of}
use Rattle.access_rules.specs.Rules.{flags_at, flags_of, rules_with, rules_without}

-- the numbers of the flags, of which a rule's flags are a sum
IGNORE-is : IGNORE ≡ 0x0001
IGNORE-is = refl

NOSERVE-is : NOSERVE ≡ 0x0002
NOSERVE-is = refl

NOTRUST-is : NOTRUST ≡ 0x0004
NOTRUST-is = refl

VERSION-is : VERSION ≡ 0x0008
VERSION-is = refl

NOQUERY-is : NOQUERY ≡ 0x0010
NOQUERY-is = refl

NOMRULIST-is : NOMRULIST ≡ 0x0020
NOMRULIST-is = refl

LIMITED-is : LIMITED ≡ 0x0040
LIMITED-is = refl

KOD-is : KOD ≡ 0x0080
KOD-is = refl

NOMODIFY-is : NOMODIFY ≡ 0x0100
NOMODIFY-is = refl

MAX_RULES-is : MAX_RULES ≡ 1024
MAX_RULES-is = refl

ARRIVAL_SCORE-is : ARRIVAL_SCORE ≡ 60000
ARRIVAL_SCORE-is = refl

PLAIN_AVERAGE-is : PLAIN_AVERAGE ≡ 60
PLAIN_AVERAGE-is = refl

PLAIN_BURST-is : PLAIN_BURST ≡ 20
PLAIN_BURST-is = refl

-- two seconds
PLAIN_SPACING-is : PLAIN_SPACING ≡ 2 * 2 ^ 32
PLAIN_SPACING-is = refl

-- RFC 5905, section 7.2: MINPOLL and MAXPOLL
MIN_POLL-is : MIN_POLL ≡ 4
MIN_POLL-is = refl

MAX_POLL-is : MAX_POLL ≡ 17
MAX_POLL-is = refl

MAX_SERVERS-is : MAX_SERVERS ≡ 32
MAX_SERVERS-is = refl

-- `noserve` and `limited` are 0x0002 and 0x0040
has_flag-set : has_flag 66 64 ≡ true
has_flag-set = refl

has_flag-clear : has_flag 66 8 ≡ false
has_flag-clear = refl

joined-both : joined (Some 66) 2 ≡ 66
joined-both = refl

-- 60 arrivals a minute, five at once
rate : Rate
rate = record { average = 60; burst = 5; spacing = 8589934592 }

score-first : score_of rate 0 0 ≡ 60000
unfolding rate
score-first = refl

score-sixth : score_of rate 300000 0 ≡ 360000
unfolding rate
score-sixth = refl

leak-rounded : leak_of rate (3 * 2 ^ 32 - 5) ≡ 179999
unfolding rate
leak-rounded = refl

score-later : score_of rate 360000 (3 * 2 ^ 32 - 5) ≡ 240001
unfolding rate
score-later = refl

score-full : score_of rate 4294967294 0 ≡ 4294967295
unfolding rate
score-full = refl

over-not : is_over rate 300000 ≡ false
unfolding rate
over-not = refl

over-sixth : is_over rate 360000 ≡ true
unfolding rate
over-sixth = refl

-- every address of IPv4, 10.0.0.0/8, 10.0.0.0/9 and every address of IPv6
all_v4 : Prefix
unfolding number_of
all_v4 = record { ip = V4 (0 ∷ 0 ∷ 0 ∷ 0 ∷ []); length = 0; within = lit≤ tt; host_bits = refl }

net_10 : Prefix
unfolding number_of
net_10 = record { ip = V4 (10 ∷ 0 ∷ 0 ∷ 0 ∷ []); length = 8; within = lit≤ tt; host_bits = refl }

half_10 : Prefix
unfolding number_of
half_10 = record { ip = V4 (10 ∷ 0 ∷ 0 ∷ 0 ∷ []); length = 9; within = lit≤ tt; host_bits = refl }

net_9 : Prefix
unfolding number_of
net_9 = record { ip = V4 (9 ∷ 255 ∷ 0 ∷ 0 ∷ []); length = 16; within = lit≤ tt; host_bits = refl }

all_v6 : Prefix
unfolding number_of
all_v6 = record { ip = V6 (0 ∷ 0 ∷ 0 ∷ 0 ∷ 0 ∷ 0 ∷ 0 ∷ 0 ∷ 0 ∷ 0 ∷ 0 ∷ 0 ∷ 0 ∷ 0 ∷ 0 ∷ 0 ∷ []); length = 0; within = lit≤ tt; host_bits = refl }

before-shorter : prefix_before net_10 half_10 ≡ true
unfolding prefix_before net_10 half_10 number_of
before-shorter = refl

before-lower : prefix_before net_9 net_10 ≡ true
unfolding prefix_before net_9 net_10 number_of
before-lower = refl

before-v6 : prefix_before net_10 all_v6 ≡ true
unfolding prefix_before net_10 all_v6 number_of
before-v6 = refl

same-not : same_prefix net_10 half_10 ≡ false
unfolding same_prefix net_10 half_10 number_of
same-not = refl

-- `restrict default noserve` and `restrict 10.0.0.0/8`
rules : List Rule
unfolding all_v4 all_v6 net_10 number_of
rules =
    record { prefix = all_v4; flags = 2 } ∷
    record { prefix = net_10; flags = 0 } ∷
    record { prefix = all_v6; flags = 2 } ∷ []

flags_of-inside : flags_of rules (V4 (10 ∷ 1 ∷ 2 ∷ 3 ∷ [])) ≡ 0
unfolding rules all_v4 all_v6 net_10 number_of
flags_of-inside = refl

flags_of-outside : flags_of rules (V4 (11 ∷ 1 ∷ 2 ∷ 3 ∷ [])) ≡ 2
unfolding rules all_v4 all_v6 net_10 number_of
flags_of-outside = refl

flags_at-joined : flags_at (rules_with rules net_10 64) net_10 ≡ Some 64
unfolding rules all_v4 all_v6 net_10 number_of prefix_before same_prefix
flags_at-joined = refl

flags_at-new : flags_at (rules_with rules half_10 64) half_10 ≡ Some 64
unfolding rules all_v4 all_v6 net_10 half_10 number_of prefix_before same_prefix
flags_at-new = refl

flags_at-default : flags_at (rules_without rules all_v4) all_v4 ≡ Some 0
unfolding rules all_v4 all_v6 net_10 number_of prefix_before same_prefix
flags_at-default = refl

flags_at-gone : flags_at (rules_without rules net_10) net_10 ≡ None
unfolding rules all_v4 all_v6 net_10 number_of prefix_before same_prefix
flags_at-gone = refl
