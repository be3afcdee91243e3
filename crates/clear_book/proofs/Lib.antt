mod DayTextLemmas
