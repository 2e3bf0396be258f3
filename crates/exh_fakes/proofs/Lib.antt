mod OneNewWard
