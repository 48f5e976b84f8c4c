-- What a browser is answered (RFC 9112, RFC 9110; what stands in each head: this project's profile).
use Rattle.std.specs.Prelude.{ℕ, Bool, if◌then◌else◌, List, [], ◌∷◌, ◌++◌, codes, length, Option, Some, None}
use Rattle.std.specs.Fmt.{decimal}
use Rattle.httpdate.specs.declared.date.HttpDate.{HttpDate}
use Rattle.httpdate.specs.Date.{date_text}
use Rattle.acdm_web.specs.declared.request.BrowserRequest.{BrowserRequest}
use Rattle.acdm_web.specs.declared.request.Wanted.{Wanted}
use Rattle.acdm_web.specs.declared.request.Wanted.TheVariants.{Page, Events, Nothing, OtherMethod, Misdirected, NoRequest, Busy}

-- a line of a head
abbrev pub head_line : List ℕ → List ℕ
head_line words = words ++ 13 ∷ 10 ∷ []

-- The end of each head: nothing is kept, the connection ends behind the answer, and the page loads and runs
-- nothing that does not stand in it.
unfoldable pub head_end : List ℕ
head_end = head_line (codes "Cache-Control: no-store")
    ++ (head_line (codes "Connection: close")
    ++ (head_line (codes "X-Content-Type-Options: nosniff")
    ++ (head_line (codes "Referrer-Policy: no-referrer")
    ++ (head_line (codes "Content-Security-Policy: default-src 'none'; style-src 'unsafe-inline'; script-src 'unsafe-inline'; connect-src 'self'; base-uri 'none'; frame-ancestors 'self'")
    ++ head_line []))))

-- the head of the events
unfoldable pub events_head : List ℕ
events_head = head_line (codes "HTTP/1.1 200 OK")
    ++ (head_line (codes "Content-Type: text/event-stream; charset=utf-8") ++ head_end)

-- ---- answers with an end

abbrev pub status_of : Wanted → List ℕ
status_of Page = codes "HTTP/1.1 200 OK"
status_of (Events _) = codes "HTTP/1.1 200 OK"
status_of Nothing = codes "HTTP/1.1 404 Not Found"
status_of OtherMethod = codes "HTTP/1.1 405 Method Not Allowed"
status_of Misdirected = codes "HTTP/1.1 421 Misdirected Request"
status_of NoRequest = codes "HTTP/1.1 400 Bad Request"
status_of Busy = codes "HTTP/1.1 503 Service Unavailable"

abbrev pub kind_of : Wanted → List ℕ
kind_of Page = codes "Content-Type: text/html; charset=utf-8"
kind_of (Events _) = codes "Content-Type: text/event-stream; charset=utf-8"
kind_of _ = codes "Content-Type: text/plain; charset=utf-8"

-- the line that one kind of answer has beside the others (RFC 9110, sections 10.2.1 and 10.2.3)
abbrev pub further_line : Wanted → List ℕ
further_line OtherMethod = head_line (codes "Allow: GET, HEAD")
further_line Busy = head_line (codes "Retry-After: 60")
further_line _ = []

-- what stands behind the head: the page, or why there is none
abbrev pub body_of : Wanted → List ℕ → List ℕ
body_of Page page = page
body_of (Events _) page = []
body_of Nothing page = codes "Nothing is here. The board is at /, its events at /events.\n"
body_of OtherMethod page = codes "Ask by GET or HEAD.\n"
body_of Misdirected page = codes "This board has no such name. Its operator gives names by --web-name.\n"
body_of NoRequest page = codes "This is no request of HTTP/1.1 with at most 64 fields.\n"
body_of Busy page = codes "All places for browsers are taken. Try again in a minute.\n"

-- the moment of an answer, where it is known (RFC 9110, section 6.6.1)
abbrev pub date_line : Option HttpDate → List ℕ
date_line None = []
date_line (Some date) = head_line (codes "Date: " ++ date_text date)

unfoldable pub head_of : Wanted → List ℕ → Option HttpDate → List ℕ
head_of wanted body date = head_line (status_of wanted)
    ++ (head_line (kind_of wanted)
    ++ (further_line wanted
    ++ (head_line (codes "Content-Length: " ++ decimal (length body))
    ++ (date_line date ++ head_end))))

-- the head, and what stands behind it, which is left out where the head alone is asked for (RFC 9110, section 9.3.2)
abbrev pub ended_text : BrowserRequest → List ℕ → Option HttpDate → List ℕ
ended_text request page date = head_of request.wanted (body_of request.wanted page) date
    ++ (if request.is_head then [] else body_of request.wanted page)

abbrev pub text_of : Wanted → List ℕ → List ℕ
text_of (Events _) ended = events_head
text_of _ ended = ended

-- what a browser is answered, the events without what comes behind their head
abbrev pub answer_text : BrowserRequest → List ℕ → Option HttpDate → List ℕ
answer_text request page date = text_of request.wanted (ended_text request page date)
