-- 000 Algorithms 3 and 4: CANCELNAV and HTTP_SEND.
use Rattle.std.specs.Prelude.{Bool, false, cond, not, [], ◌∷◌, map, ℕ}
use Rattle.std.specs.Prelude.{Some as some}
use Rattle.sorted.specs.Table.{put, sift}
use Rattle.tables.specs.Tables.{pending_dns, pending_requests}
use Rattle.tables.specs.Labels.{request, dns}
use Rattle.shapes.specs.Events.{resolve}
use Rattle.tables.specs.Rows.{pair_of, jar, same_reference}
use Rattle.wim.specs.Nouns.{Url, Secure, Absent, Jar, Reference, Cancelled, Bare, Labelled, Referrer, Unknown, Known, Policy, Unset, NoReferrer, OriginOnly, Request, Sending, Question, Waiting}
use Rattle.wim.specs.Program.{Program, ask, edit, bring, done, strict, cookies_for, ◌>>=◌, ◌>>◌}

-- ALGORITHM 3, CANCELNAV(reference, s').
-- a bare window number equals no reference, so nothing is cancelled by it
abbrev pub cancels : Cancelled → Reference → Bool
cancels (Bare w) r = false
cancels (Labelled s) r = same_reference s r

abbrev pub cancel_nav : Cancelled → Program → Program
cancel_nav c p = do
  edit pending_requests (sift (λ (r : Waiting). not (cancels c r.reference)) ∷ [])  -- 2
  edit pending_dns (sift (λ (r : Question). not (cancels c r.reference)) ∷ [])  -- 3
  p

-- ALGORITHM 4, HTTP_SEND(reference, message, url, origin, referrer, referrerPolicy, a, s').
-- 3: url.protocol := S
abbrev pub secured : Url → Url
secured u = record { protocol = Secure; host = u.host; path = u.path; parameters = u.parameters; fragment = u.fragment }

-- 13: referrer.fragment := ⊥
abbrev pub unfragmented : Url → Url
unfragmented u = record { protocol = u.protocol; host = u.host; path = u.path; parameters = u.parameters; fragment = Absent }

-- 12: ⟨URL, referrer.protocol, referrer.host, /, ⟨⟩, ⊥⟩
abbrev pub stripped_to_origin : Url → Url
stripped_to_origin u = record { protocol = u.protocol; host = u.host; path = record { 0 = 0 }; parameters = record { 0 = 0 }; fragment = Absent }

-- 8 to 14
abbrev pub referer : Policy → Referrer → Referrer
referer Unset Unknown = Unknown
referer Unset (Known u) = Known (unfragmented u)
referer NoReferrer r = Unknown
referer OriginOnly Unknown = Unknown
referer OriginOnly (Known u) = Known (stripped_to_origin u)

-- the message with its headers: 5, 7, 14
abbrev pub request_of : Sending → Jar → ℕ → Request
request_of o cookies q = record {
  number = record { 0 = q };
  method = o.method;
  host = o.url.host;
  path = o.url.path;
  parameters = o.parameters;
  cookies = cookies;
  origin = o.origin;
  referrer = referer o.policy o.referrer;
  body = o.body;
}

abbrev pub question_of : Sending → Url → Jar → ℕ → ℕ → Question
question_of o url cookies q n = record { number = record { 0 = n }; reference = o.reference; request = request_of o cookies q; url = url }

unfoldable pub send : Sending → Program
send o = do
  sts ← ask (strict o.url.host)  -- 2
  let url = cond sts (secured o.url) o.url  -- 3
  chosen ← ask (cookies_for o.url.host url.protocol)  -- 4
  q ← bring request
  n ← bring dns
  edit pending_dns (put (question_of o url (jar (map pair_of chosen)) q n) ∷ [])  -- 5 to 15
  done (some (resolve o.url.host (record { 0 = n })))  -- 16
