mod ResumedLemmas
