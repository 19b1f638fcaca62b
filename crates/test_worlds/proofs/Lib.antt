mod BothHands
