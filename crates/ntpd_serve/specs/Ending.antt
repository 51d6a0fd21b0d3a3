-- How a run of `ntpd` ends: the line that it prints and its exit status. All of it is our own rule.
use Rattle.std.specs.Prelude.{◌≡◌, ◌⊎◌, ℕ, Option, List, [], ◌∷◌, ◌++◌, codes, decimal}
use Rattle.edge_traits.specs.Told.{gained, GainedFront}
use Rattle.edge_traits.specs.declared.status.Status.{Status}
use Rattle.server_core.specs.declared.class.Unheard.{Unheard}
use Rattle.server_core.specs.declared.class.Unheard.TheVariants.{Packet, Trailer, Frame, Unserved, NotRequest, BadNonce}
use Rattle.server_core.specs.declared.response.Silence.{Silence}
use Rattle.server_core.specs.declared.response.Silence.TheVariants.{Unheard as NotHeard, Ignored, Limited}
use Rattle.ntpd_serve.specs.declared.ending.Ending.{Ending}
use Rattle.ntpd_serve.specs.declared.ending.Ending.TheVariants.{Answered, Silent, Failed}
use Rattle.ntpd_serve.specs.declared.ending.Failure.{Failure}
use Rattle.ntpd_serve.specs.declared.ending.Failure.TheVariants.{Words, Conf, Keys, TooLong, Host, Port, Clock, Quiet, Closed, NoMemory}

-- why a datagram is not heard
abbrev pub unheard_text : Unheard → List ℕ
unheard_text (Packet number) = codes "packet " ++ decimal number
unheard_text (Trailer number) = codes "trailer " ++ decimal number
unheard_text (Frame number) = codes "frame " ++ decimal number
unheard_text (Unserved mode) = codes "unserved " ++ decimal mode
unheard_text NotRequest = codes "not-request"
unheard_text BadNonce = codes "bad-nonce"

-- why a datagram got no answer
abbrev pub silence_text : Silence → List ℕ
silence_text (NotHeard why) = unheard_text why
silence_text Ignored = codes "ignored"
silence_text Limited = codes "limited"

-- a word of a file
abbrev pub place_text : ℕ → ℕ → List ℕ
place_text line word = codes " line " ++ decimal line ++ codes " word " ++ decimal word

-- why nothing was served, or no more
abbrev pub failure_text : Failure → List ℕ
failure_text Words = codes "words"
failure_text (Conf line word) = codes "conf" ++ place_text line word
failure_text (Keys line word) = codes "keys" ++ place_text line word
failure_text TooLong = codes "file too long"
failure_text Host = codes "host"
failure_text Port = codes "port"
failure_text Clock = codes "clock"
failure_text Quiet = codes "quiet"
failure_text Closed = codes "closed"
failure_text NoMemory = codes "memory"

-- what is printed of an ending
abbrev pub ending_text : Ending → List ℕ
ending_text (Answered count) = codes "answered " ++ decimal count
ending_text (Silent why) = codes "silent " ++ silence_text why
ending_text (Failed why) = codes "ntpd: " ++ failure_text why

-- as a line
unfoldable pub line_of : Ending → List ℕ
line_of ending = ending_text ending ++ 10 ∷ []

-- the exit status of a failure
abbrev pub failure_status : Failure → ℕ
failure_status Words = 1
failure_status (Conf line word) = 2
failure_status (Keys line word) = 2
failure_status TooLong = 2
failure_status Host = 3
failure_status Port = 4
failure_status Clock = 5
failure_status Quiet = 6
failure_status Closed = 7
failure_status NoMemory = 9

-- the exit status, where the line was written
abbrev pub status_of : Ending → ℕ
status_of (Failed why) = failure_status why
status_of _ = 0

-- the sink has the whole text, and the status is the one that is due with it; or the sink's fault is the status, and the sink
-- has a front of the text
abbrev pub Prints : List ℕ → ℕ → Status → Option (List ℕ) → Option (List ℕ) → Type 0
Prints text due status old new =
    ((status.0 ≡ due) × (new ≡ gained old text))
    ⊎ (((status.0 ≡ 8) ⊎ (status.0 ≡ 9)) × GainedFront old new text)

-- the ending's line is printed, with its status
abbrev pub Reports : Ending → Status → Option (List ℕ) → Option (List ℕ) → Type 0
Reports ending status old new = Prints (line_of ending) (status_of ending) status old new
