-- The texts of numbers, times and samples as values of variables (RFC 5905, section 6, for the times; the forms are our own rule).
use Rattle.std.specs.Prelude.{ℕ, ◌<◌, ◌+◌, ◌*◌, ◌/◌, ◌%◌, ◌^◌, ◌==◌, not, ◌&&◌, ℤ, pos, Bool, if◌then◌else◌, Option, Some, None, List, [], ◌∷◌, ◌++◌, length, nat_lt, codes, decimal, unsigned_abs}
use Rattle.std.specs.Int.{is_in_range, is_negative}
use Rattle.std.specs.Char.{is_ascii_alphanumeric}
use Rattle.std.specs.List.{list_all, before_first, join_by}
use Rattle.std.specs.Net.Text.{ipv4_text}
use Rattle.hex.specs.Hex.{encode_lower}
use Rattle.clock_filter.specs.declared.samples.Sample.{Sample}
use Rattle.discipline.specs.declared.state.State.{State}
use Rattle.discipline.specs.declared.state.State.TheVariants.{Nset, Fset, Spik, Freq, Sync}
use Rattle.fixed_time.specs.declared.time.TheConstants.{MAX_DISPERSION}
use Rattle.mode6_frame.specs.Items.{AreNameOctets}
use Rattle.ntp_packet.specs.declared.packet.TheConstants.{MAX_SYNCHRONIZED_STRATUM}
use Rattle.sys_vars.specs.declared.sample_text.Measure.{Measure}
use Rattle.sys_vars.specs.declared.sample_text.Measure.TheVariants.{Delay, Offset, Dispersion}

-- visible octets other than the comma, the equals sign and the quotation mark, one at least
abbrev pub IsWord : List ℕ → Type 0
IsWord text = AreNameOctets text × (0 < length text)

-- the last six decimal digits of a number, with zeros in front where it has fewer
abbrev pub six_digits : ℕ → List ℕ
six_digits n =
    (48 + n / 100000 % 10) ∷ (48 + n / 10000 % 10) ∷ (48 + n / 1000 % 10)
    ∷ (48 + n / 100 % 10) ∷ (48 + n / 10 % 10) ∷ (48 + n % 10) ∷ []

-- so many millionths as a decimal number with six digits behind the point
abbrev pub millionths_text : ℕ → List ℕ
millionths_text n = decimal (n / 1000000) ++ codes "." ++ six_digits n

-- the sign in front of so many millionths of a number: a minus where it is negative and they are not 0
abbrev pub minus_sign : ℤ → ℕ → List ℕ
minus_sign number n = if is_negative number && not (n == 0) then codes "-" else []

-- whole nanoseconds in a time of 32.32 seconds
abbrev pub nanoseconds : ℕ → ℕ
nanoseconds time = time * 10 ^ 9 / 2 ^ 32

-- the text of a time of 32.32 seconds, in milliseconds with six digits behind the point
unfoldable pub ms_text : ℕ → List ℕ
ms_text time = millionths_text (nanoseconds time)

-- the text of a signed time of 32.32 seconds, in milliseconds
unfoldable pub signed_ms_text : ℤ → List ℕ
signed_ms_text time = minus_sign time (nanoseconds (unsigned_abs time)) ++ ms_text (unsigned_abs time)

-- whole millionths of a part per million in a frequency in units of 2^-32
abbrev pub frequency_millionths : ℕ → ℕ
frequency_millionths frequency = frequency * 10 ^ 12 / 2 ^ 32

-- the text of a frequency in units of 2^-32, in parts per million with six digits behind the point
unfoldable pub ppm_text : ℤ → List ℕ
ppm_text frequency =
    minus_sign frequency (frequency_millionths (unsigned_abs frequency))
    ++ millionths_text (frequency_millionths (unsigned_abs frequency))

-- the text of a reach register: three octal digits
unfoldable pub reach_text : ℕ → List ℕ
reach_text reach = (48 + reach / 64 % 8) ∷ (48 + reach / 8 % 8) ∷ (48 + reach % 8) ∷ []

-- the number of a state of the clock discipline
abbrev pub state_number : State → ℕ
state_number Nset = 1
state_number Fset = 2
state_number Spik = 3
state_number Freq = 4
state_number Sync = 5

-- the octets before the first zero octet
abbrev pub before_zero : List ℕ → List ℕ
before_zero octets = before_first (λ octet. octet == 0) octets

-- a code of four characters: letters or digits, at least one, filled up with zero octets
abbrev pub is_code : List ℕ → Bool
is_code octets = nat_lt 0 (length (before_zero octets)) && list_all is_ascii_alphanumeric (before_zero octets)

-- The text of a reference identifier (RFC 5905, section 7.3). From stratum 2 to 15 it is the address of the source, in
-- dotted decimal; else it is a code, or what is no code in hexadecimal digits: our own rule for the latter.
unfoldable pub refid_text : ℕ → List ℕ → List ℕ
refid_text stratum refid =
    if is_in_range 2 MAX_SYNCHRONIZED_STRATUM stratum then ipv4_text refid
    else (if is_code refid then before_zero refid
    else codes "0x" ++ encode_lower refid)

-- the text of one value of a stage of the clock filter; a stage without a sample has no delay, no offset and a
-- dispersion of 16 seconds
unfoldable pub measure_text : Measure → Option Sample → List ℕ
measure_text Delay (Some sample) = ms_text sample.delay
measure_text Offset (Some sample) = signed_ms_text sample.offset.0
measure_text Dispersion (Some sample) = ms_text sample.disp
measure_text Delay None = ms_text 0
measure_text Offset None = signed_ms_text (pos 0)
measure_text Dispersion None = ms_text MAX_DISPERSION

-- the text of one value of all stages of the clock filter, with a space between two
unfoldable pub measures_text : Measure → List (Option Sample) → List ℕ
measures_text measure stages = join_by (measure_text measure) (codes " ") stages
