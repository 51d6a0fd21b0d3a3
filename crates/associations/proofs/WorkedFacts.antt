-- The constants, worked samples of replies, and of the words about a server and about the system.
use Rattle.std.proofs.Common.{◌≡◌, ℕ, ◌+◌, ◌-◌, ◌*◌, ◌^◌, [], ◌∷◌, pos, negsuc, neg_ℤ, true, false, Some, None, replicate, lit≤, refl}
use Rattle.access_rules.specs.declared.servers.ServerLine.{ServerLine}
use Rattle.clock_filter.specs.declared.estimates.Estimate.{Estimate}
use Rattle.discipline.specs.declared.state.State.TheVariants.{Nset, Spik}
use Rattle.fixed_time.specs.declared.time.Ntp64.{Ntp64}
use Rattle.net_addr.specs.declared.addr.Ip.TheVariants.{V4}
use Rattle.ntp_packet.specs.declared.packet.Header.{Header}
use Rattle.sys_vars.specs.Opening.{opening_system}
use Rattle.associations.specs.Associations.{opened, reach_after_request, runs_empty}
use Rattle.associations.specs.Candidates.{candidate_of, near_candidate}
use Rattle.associations.specs.Judging.{root_distance_of}
use Rattle.associations.specs.Samples.{held_delay, lead_by, resolution_of, round_trip_by, sample_by, waited_for}
use Rattle.associations.specs.Accepting.{reach_after_reply}
use Rattle.associations.specs.Systems.{in_state, leap_below, system_event, unselected, values_of}
use Rattle.associations.specs.DueTimes.{moment_after}
use Rattle.associations.specs.declared.asking.TheConstants.{MAX_REQUEST_LEN}
use Rattle.associations.specs.declared.association.Association.{Association}
use Rattle.associations.specs.declared.candidates.TheConstants.{MAX_DISTANCE}
use Rattle.associations.specs.declared.sampling.TheConstants.{MAX_DELAY, RESOLUTION}
use Rattle.sys_vars.specs.declared.system.TheConstants.{PRECISION}
use Rattle.std.specs.Prelude.{int_div}

-- 1.5 seconds
MAX_DISTANCE-is : MAX_DISTANCE ≡ 6442450944
MAX_DISTANCE-is = refl

RESOLUTION-is : RESOLUTION ≡ 4096
RESOLUTION-is = refl

-- our precision and our resolution are one
PRECISION-is : resolution_of PRECISION ≡ RESOLUTION
PRECISION-is = refl

MAX_DELAY-is : MAX_DELAY ≡ 2 ^ 62
MAX_DELAY-is = refl

MAX_REQUEST_LEN-is : MAX_REQUEST_LEN ≡ 48 + 4 + 20
MAX_REQUEST_LEN-is = refl

-- a reply of stratum 2 with these origin, receive and transmit timestamps
abbrev reply : ℕ → ℕ → ℕ → Header
reply origin receive transmit = record {
  leap = 0;
  version = 4;
  mode = 4;
  stratum = 2;
  poll = pos 6;
  precision = negsuc 19;
  root_delay = record { 0 = 0 };
  root_disp = record { 0 = 0 };
  refid = replicate 4 0;
  reference = record { 0 = 0 };
  origin = record { 0 = origin };
  receive = record { 0 = receive };
  transmit = record { 0 = transmit };
}

-- a time of our clock
abbrev time : ℕ → Ntp64
time n = record { 0 = n }

-- asked at one second, answered at two, come at one and a half: 0.75 s ahead over a round trip of 0.5 s, in which 32213 units may have drifted
ahead : sample_by (reply (0x83aa7e81 * 2 ^ 32) (0x83aa7e82 * 2 ^ 32) (0x83aa7e82 * 2 ^ 32)) (time (0x83aa7e81 * 2 ^ 32 + 2 ^ 31)) (3 * 2 ^ 31)
    ≡ record { offset = record { 0 = pos 3221225472 }; delay = 2147483648; disp = 40405; at = 3 * 2 ^ 31 }
unfolding sample_by
ahead = refl

-- over the end of an era: one second ahead, over a round trip of one second
next_era : sample_by (reply (0xffffffff80000000) (0x100000000) (0x100000000)) (time 0x80000000) 5
    ≡ record { offset = record { 0 = pos (2 ^ 32) }; delay = 2 ^ 32; disp = 8192 + 64425; at = 5 }
unfolding sample_by
next_era = refl

-- one unit behind on one way and none on the other: half of it is none
toward_zero : int_div (lead_by (reply 1 0 0) (time 0)) (pos 2) ≡ pos 0
toward_zero = refl

-- as far behind as differences go, on both ways
farthest_behind : int_div (lead_by (reply 0 (2 ^ 63) (2 ^ 63)) (time 0)) (pos 2) ≡ neg_ℤ (pos (2 ^ 63))
farthest_behind = refl

-- as far ahead
farthest_ahead : int_div (lead_by (reply 0 (2 ^ 63 - 1) (2 ^ 63 - 1)) (time 0)) (pos 2) ≡ pos (2 ^ 63 - 1)
farthest_ahead = refl

-- the longest round trip, and a time inside the server that is longer than it
longest : held_delay (round_trip_by (reply 0 (2 ^ 63) 0) (time (2 ^ 63 - 1))) ≡ 2 ^ 62
longest = refl

shortest : held_delay (round_trip_by (reply 0 0 1) (time 0)) ≡ 4096
shortest = refl

-- our clock was set back meanwhile
set_back : waited_for (reply 1 0 0) (time 0) ≡ 0
set_back = refl

-- precisions of a microsecond, of a second and less, and finer than a unit
microsecond : resolution_of (negsuc 19) ≡ 4096
microsecond = refl

coarse : resolution_of (pos 3) ≡ 2 ^ 32
coarse = refl

finest : resolution_of (negsuc 127) ≡ 1
finest = refl

-- a root delay of 32 seconds alone is a root distance of 16
far_root : root_distance_of (record { 0 = 32 * 2 ^ 16 }) (record { 0 = 0 }) ≡ 16 * 2 ^ 32
far_root = refl

-- eight requests without a reply empty the reach register, and an empty one stays so
shifted : reach_after_request 0b10000001 ≡ 0b00000010
shifted = refl

emptied : runs_empty 0b10000000 ≡ true
emptied = refl

empty_before : runs_empty 0 ≡ false
empty_before = refl

marked : reach_after_reply 0b10 ≡ 0b11
marked = refl

-- a server at 10.0.0.1 that was reached, with this estimate, whose sample came at three and a half seconds
abbrev line : ServerLine
line = record {
  addr = record { ip = V4 (10 ∷ 0 ∷ 0 ∷ 1 ∷ []); port = 123 };
  key = 0;
  poll = 6;
  key_id = lit≤ tt;
  at_least = lit≤ tt;
  at_most = lit≤ tt;
}

abbrev measured : ℕ → ℕ → Association
measured stratum disp = record (opened line) {
  stratum = stratum;
  leap = 1;
  root_delay = 2 ^ 16;
  root_disp = 2 ^ 18;
  reach = 1;
  estimate = Some (record { offset = record { 0 = pos 7 }; delay = 2 ^ 31; disp = disp; jitter = 4096; at = 7 * 2 ^ 31 });
}

-- a quarter of a second of half a delay, and a dispersion of a second: ten seconds later 644,246 units have drifted
near : candidate_of (27 * 2 ^ 31) 3 (measured 2 (2 ^ 32))
    ≡ Some (record { peer = 3; stratum = 2; offset = record { 0 = pos 7 }; distance = 2 ^ 30 + 2 ^ 15 + 2 ^ 18 + 2 ^ 32 + 644246 + 4096; jitter = 4096 })
near = refl

-- a dispersion of eight seconds, as after the first sample, is too far
far_off : candidate_of (27 * 2 ^ 31) 3 (measured 2 (2 ^ 35)) ≡ None
far_off = refl

-- a unit under the threshold a server is a candidate, and at it and over it, as at 1.75 seconds, it is none
abbrev estimate : Estimate
estimate = record { offset = record { 0 = pos 7 }; delay = 0; disp = 0; jitter = 4096; at = 0 }

just_near : near_candidate 3 (measured 2 0) estimate (3 * 2 ^ 31 - 1)
    ≡ Some (record { peer = 3; stratum = 2; offset = record { 0 = pos 7 }; distance = 3 * 2 ^ 31 - 1; jitter = 4096 })
just_near = refl

just_far : near_candidate 3 (measured 2 0) estimate (3 * 2 ^ 31) ≡ None
just_far = refl

far : near_candidate 3 (measured 2 0) estimate (7 * 2 ^ 30) ≡ None
far = refl

-- a server that was not asked yet is no candidate
unasked : candidate_of 0 1 (opened line) ≡ None
unasked = refl

-- below stratum 15 no clock is synchronized, below 14 one is
below_fifteen : leap_below (measured 15 0) ≡ 3
below_fifteen = refl

below_fourteen : leap_below (measured 14 0) ≡ 1
below_fourteen = refl

-- the second event of a server that opened: there is no system peer
no_peer : unselected (values_of opening_system) ≡ record (values_of opening_system) { events = 2; code = 8 }
no_peer = refl

-- a state that stays is no event, and another one is
same_state : in_state Nset (values_of opening_system) ≡ values_of opening_system
same_state = refl

other_state : in_state Spik (values_of opening_system) ≡ record (values_of opening_system) { state = Spik; events = 2; code = 3 }
other_state = refl

-- events count up to 15
sixteenth : system_event 7 (record (values_of opening_system) { events = 15 }) ≡ record (values_of opening_system) { events = 15; code = 7 }
sixteenth = refl

-- an interval of 64 seconds, up to the last moment
in_time : moment_after 64 (2 ^ 64 - 1 - 2 ^ 38) ≡ Some (2 ^ 64 - 1)
in_time = refl

past_the_end : moment_after 64 (2 ^ 64 - 2 ^ 38) ≡ None
past_the_end = refl
